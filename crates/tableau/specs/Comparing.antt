-- What storing a tableau in place of a list keeps (document 02, P9): three theorems, for every n and lists of any length, over all eight kinds of rows. The first is for every d above 1, the
-- others are for every d. They are proved in proofs/Comparing, under their names; proofs/Counterexamples shows by computing that each of their premises is needed.
use Rattle.std.specs.Prelude.{◌≡◌, List, ◌++◌, ◌↔◌, true, ℕ, ◌%◌, ◌<◌, length, take}
use Rattle.arith.specs.Answers.{Written}
use Rattle.pauli.specs.Pauli.{Pauli, Below, InRange, comm}
use Rattle.gates.specs.Row.{Row, AllLegal, run}
use Rattle.gates.specs.Common.{NoneInCommon, none_in_common}
use Rattle.gates.specs.Written.{list_rows, rows_of, all_legal_rows}
use Rattle.tableau.specs.Tableau.{tableau_of, image, WellFormed, Sound}
use Rattle.tableau.specs.Bytes.{tableau_bytes, decode_tableau}
use Rattle.tableau.specs.Calls.{tableau_refusal, tableau_answer, compose_answer}

-- ---- what a list can show
-- two lists carry every Pauli in range alike, phase included
abbrev pub CarryAlike : ℕ → ℕ → List Row → List Row → Type 0
CarryAlike d n xs ys = (p : Pauli) → InRange d n p → run d xs p ≡ run d ys p

-- a list keeps the commutation number of any two Paulis in range
abbrev pub KeepsCommutation : ℕ → ℕ → List Row → Type 0
KeepsCommutation d n rows = (p q : Pauli) → InRange d n p → InRange d n q → comm d (run d rows p) (run d rows q) ≡ comm d p q

-- ---- the three theorems
-- 1. two legal lists have equal tableaus exactly when they carry every Pauli alike
abbrev pub EqualTableaus : Type 0
EqualTableaus = (d n : ℕ) (xs ys : List Row) → 1 < d → AllLegal d n xs → AllLegal d n ys → (tableau_of d n xs ≡ tableau_of d n ys) ↔ CarryAlike d n xs ys

-- 2. every legal list keeps the commutation number of any two Paulis
abbrev pub CommutationKept : Type 0
CommutationKept = (d n : ℕ) (rows : List Row) → AllLegal d n rows → KeepsCommutation d n rows

-- 3. two lists with no qudit in common give one tableau in either order; legal lists do, and so do any others
abbrev pub EitherOrder : Type 0
EitherOrder = (d n : ℕ) (xs ys : List Row) → NoneInCommon xs ys → tableau_of d n (xs ++ ys) ≡ tableau_of d n (ys ++ xs)

-- ---- in bytes
-- a list in bytes whose rows are all legal (bytes after the last whole row are not looked at)
abbrev pub LegalBytes : ℕ → ℕ → List ℕ → Type 0
LegalBytes d n list = all_legal_rows d n (list_rows list) ≡ true

-- 1, of the tableaus' bytes that the calls hand back for two lists
abbrev pub EqualBytes : Type 0
EqualBytes = (d n : ℕ) (xs ys : List ℕ) → 1 < d → LegalBytes d n xs → LegalBytes d n ys → (tableau_answer d n xs ≡ tableau_answer d n ys) ↔ CarryAlike d n (rows_of xs) (rows_of ys)

-- and of what two calls wrote that weren't refused: `Written` is what the call promises of its output, here from `out` to `new`, and of its number; the tableau stands at the output's front
abbrev pub EqualOutputs : Type 0
EqualOutputs = (d n : ℕ) (xs out_x new_x ys out_y new_y : List ℕ)
    → Written (tableau_refusal d n xs (length out_x)) (tableau_answer d n xs) out_x new_x 0
    → Written (tableau_refusal d n ys (length out_y)) (tableau_answer d n ys) out_y new_y 0
    → (take (tableau_bytes n) new_x ≡ take (tableau_bytes n) new_y) ↔ CarryAlike d n (rows_of xs) (rows_of ys)

-- 3, of two lists of whole rows, whose bytes are put behind each other
abbrev pub EitherBytes : Type 0
EitherBytes = (d n : ℕ) (xs ys : List ℕ) → length xs % 8 ≡ 0 → length ys % 8 ≡ 0 → none_in_common (rows_of xs) (rows_of ys) ≡ true → tableau_answer d n (xs ++ ys) ≡ tableau_answer d n (ys ++ xs)

-- and of two lists whose tableaus are stored: composing these gives the tableau of xs followed by ys
abbrev pub ComposedBytes : Type 0
ComposedBytes = (d n : ℕ) (xs ys : List ℕ) → 1 < d → length xs % 8 ≡ 0 → LegalBytes d n xs → LegalBytes d n ys
    → compose_answer d n (tableau_answer d n xs) (tableau_answer d n ys) ≡ tableau_answer d n (xs ++ ys)

-- a tableau in bytes that the calls take: there are as many as the layout says, and what they hold is in range and sound. `taken_exactly` of proofs/Comparing: the tests that every call makes of
-- a tableau, 3, 5, 7 and 8, pass exactly then
pub record Taken (d n : ℕ) (b : List ℕ) : Type 0 where
  pub size : length b ≡ tableau_bytes n
  pub formed : WellFormed d n (decode_tableau n b)
  pub sound : Sound d n (decode_tableau n b)

-- such a tableau, where every number of the list is below 256, as a byte in C is
pub record Stored (d n : ℕ) (b : List ℕ) : Type 0 where
  pub bytes : Below 256 b
  pub taken : Taken d n b

-- every Pauli in range has one image under both
abbrev pub ImagesAlike : ℕ → ℕ → List ℕ → List ℕ → Type 0
ImagesAlike d n t u = (p : Pauli) → InRange d n p → image d n (decode_tableau n t) p ≡ image d n (decode_tableau n u) p

-- two such tableaus have the same bytes exactly when every Pauli has one image under both. What the calls hand back is such a tableau: `tableau_stored`, `compose_stored` and `inverse_stored` of
-- proofs/Comparing
abbrev pub EqualStored : Type 0
EqualStored = (d n : ℕ) (t u : List ℕ) → 1 < d → Stored d n t → Stored d n u → (t ≡ u) ↔ ImagesAlike d n t u
