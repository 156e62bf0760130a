-- Demand 3 in its own words: what it is that a list of legal rows realises a tableau, and what the synthesis call promises of it.
use Rattle.std.specs.Prelude.{◌≡◌, true, List, ◌↔◌, ◌⊎◌, ◌≢◌, ℕ, ◌+◌, ◌*◌, ◌≤◌, ◌<◌, length, take, drop}
use Rattle.arith.specs.Refusals.{or_else, given_of, size_of, room_of, Dimension, Width}
use Rattle.arith.specs.declared.checks.Answer.{Answer}
use Rattle.pauli.specs.Pauli.{Pauli, InRange, unit}
use Rattle.gates.specs.Row.{Row, AllLegal, run}
use Rattle.gates.specs.Written.{list_rows, rows_of, all_legal_rows}
use Rattle.tableau.specs.Tableau.{column, image, AllInRange, Pairing, Even}
use Rattle.tableau.specs.Bytes.{tableau_bytes, decode_tableau}
use Rattle.tableau.specs.Range.{tableau_range_of}
use Rattle.tableau.specs.Soundness.{soundness_of}

-- a list realises t: every row is legal, and the list carries unit Pauli j to column j
pub record Realises (d n : ℕ) (rows : List Row) (t : List Pauli) : Type 0 where
  pub legal : AllLegal d n rows
  pub carries : (j : ℕ) → j < 2 * n → run d rows (unit n j) ≡ column n t j

-- some list, of any length, realises t
abbrev pub Realisable : ℕ → ℕ → List Pauli → Type 0
Realisable d n t = (rows : List Row) × Realises d n rows t

-- ---- a call that takes a tableau t and hands back a list, whatever bytes the tableau is held in
-- the list handed back: from the output's first byte on, 8 bytes a row, as many rows as the count says
abbrev pub handed : ℕ → List ℕ → List ℕ
handed count out = take (8 * count) out

-- what holds of it, where the output's bytes were `old` and are `new`
pub record HandsBack (d n : ℕ) (t : List Pauli) (count : ℕ) (old new : List ℕ) : Type 0 where
  -- all its rows are legal, as they are written
  pub legal : all_legal_rows d n (list_rows (handed count new)) ≡ true
  -- the count is their number, and there are at most 5n² + 6n of them
  pub counted : length (rows_of (handed count new)) ≡ count
  pub short : count ≤ 5 * (n * n) + 6 * n
  -- the list carries every unit Pauli to its column, and every Pauli, phase included, to exactly its image under the tableau
  pub realises : Realises d n (rows_of (handed count new)) t
  pub images : (p : Pauli) → InRange d n p → run d (rows_of (handed count new)) p ≡ image d n t p
  -- the bytes after the list don't change
  pub later : drop (8 * count) new ≡ drop (8 * count) old

-- ---- demand 3
-- its premises depend on the layout: `WellGiven` below. Its conclusion: the tableau is refused as unrealisable exactly when no list of legal rows, of any length, carries every unit Pauli to its column; for every
-- other tableau a list is handed back, and `HandsBack` says what holds of it.
-- `demand3_holds` of proofs/Premises: it follows from what the call promises (`Promise`), where the call isn't malformed
pub record Demand3 (d n : ℕ) (t : List Pauli) (old new : List ℕ) (a : Answer) : Type 0 where
  pub unrealisable : ((a.number ≡ 7) ⊎ (a.number ≡ 8)) ↔ ¬ Realisable d n t
  pub otherwise : ¬ ((a.number ≡ 7) ⊎ (a.number ≡ 8)) → (a.number ≡ 0) × HandsBack d n t a.value old new

-- ---- the promise of the call, where `malformed` is the refusal of a malformed call, 0 for none, and t the tableau that its bytes hold: these two depend on the layout; all else is the same for every layout
pub record Promise (d n malformed : ℕ) (t : List Pauli) (old new : List ℕ) (a : Answer) : Type 0 where
  -- the number is the first refusal in the order of the table, 0 for none: `malformed`, then 7, pairing, then 8, parity
  pub number : a.number ≡ or_else malformed (soundness_of d n t)
  -- a call that isn't malformed is refused as unrealisable exactly when no list of legal rows, of any length, realises the tableau: by 7 exactly where pairing
  -- fails, by 8 exactly where pairing holds and parity fails
  pub unrealisable : malformed ≡ 0 → ((a.number ≡ 7) ⊎ (a.number ≡ 8)) ↔ ¬ Realisable d n t
  pub seven : malformed ≡ 0 → (a.number ≡ 7) ↔ ¬ Pairing d n t
  pub eight : malformed ≡ 0 → (a.number ≡ 8) ↔ (Pairing d n t × ¬ Even d n t)
  -- for every other tableau a list is handed back
  pub accepted : malformed ≡ 0 → (a.number ≡ 0) ↔ Realisable d n t
  pub list : a.number ≡ 0 → HandsBack d n t a.value old new
  -- a refused call hands back 0, and changes no byte of the output
  pub refused : a.number ≢ 0 → (a.value ≡ 0) × (new ≡ old)

-- ---- the call for any d on up to 16 qudits, on a tableau in bytes and an output of `room` bytes
-- malformed calls, in the order of the table: 1 and 2; 3, the tableau isn't as long as its layout says; 4, the output is shorter than 40n² + 48n bytes; 5, a
-- number of the tableau is out of range
abbrev pub malformed_of : ℕ → ℕ → List ℕ → ℕ → ℕ
malformed_of d n bytes room =
    or_else (given_of d n) (or_else (size_of (tableau_bytes n) (length bytes)) (or_else (room_of (40 * (n * n) + 48 * n) room) (tableau_range_of d (decode_tableau n bytes))))

-- every refusal: these, then 7, pairing, and 8, parity
abbrev pub synthesis_refusal : ℕ → ℕ → List ℕ → ℕ → ℕ
synthesis_refusal d n bytes room = or_else (malformed_of d n bytes room) (soundness_of d n (decode_tableau n bytes))

-- the premises of demand 3: d is 2 to 1,024, n is 1 to 16, the tableau has the right length and all its numbers are in range, and the output is long enough for 5n² + 6n rows.
-- `malformed_exactly` of proofs/Premises: a call isn't malformed exactly when these hold. `demand3` there: these and the promise give the conclusion
pub record WellGiven (d n : ℕ) (bytes : List ℕ) (room : ℕ) : Type 0 where
  pub dimension : Dimension d
  pub width : Width n
  pub sized : length bytes ≡ tableau_bytes n
  pub ranges : AllInRange d n (decode_tableau n bytes)
  pub roomy : 8 * (5 * (n * n) + 6 * n) ≤ room

-- what it promises, for every d, every n, every tableau in bytes and every output
abbrev pub Synthesised : ℕ → ℕ → List ℕ → List ℕ → List ℕ → Answer → Type 0
Synthesised d n bytes old new a = Promise d n (malformed_of d n bytes (length old)) (decode_tableau n bytes) old new a
