-- What holds of the inputs of a call that is accepted: what its tests have shown. Assumes nothing.
use mathlib.Core.Path.{◌≡◌}
use mathlib.Core.List.{List}
use mathlib.Core.Bool.{true}
use Prim.Native.Nat.{ℕ, ◌≤◌}
use lib.ListN.{length}
use Rattle.arith.specs.Refusals.{or_else, given_of, list_size_of, size_of, room_of}
use Rattle.arith.proofs.Refusals.{or_else_none, or_else_assoc, Given, given_good, size_good, room_good, row_good}
use Rattle.pauli.specs.Pauli.{Pauli}
use Rattle.pauli.specs.Bytes.{decode}
use Rattle.gates.specs.Written.{list_rows, all_legal_rows}
use Rattle.tableau.specs.Tableau.{WellFormed, Sound}
use Rattle.tableau.specs.Bytes.{tableau_bytes, decode_tableau}
use Rattle.tableau.specs.Range.{tableau_range_of}
use Rattle.tableau.specs.Calls.{tableau_refusal, image_refusal, compose_refusal, inverse_refusal}
use Rattle.tableau.specs.Inner.Parts.{sized_of, image_lengths, compose_lengths, inverse_lengths, tests_of, image_tests, compose_tests}
use Rattle.tableau.proofs.Bytes.{decode_formed}
use Rattle.tableau.proofs.Tests.{sound_good}

-- ---- past 1, 2 and 3 of a tableau
pub record Sized (d n have : ℕ) : Type 0 where
  pub given : Given d n
  pub size : have ≡ tableau_bytes n

pub sized_good : {d n have : ℕ} → sized_of d n have ≡ 0 → Sized d n have
sized_good {d} {n} e = let z = or_else_none (given_of d n) _ e in record { given = given_good z.0; size = size_good z.1 }

-- of what `given` answers
pub given_size : {d n have : ℕ} {both : ℕ × ℕ} → sized_of d n have ≡ 0 → both ≡ (d, n) → have ≡ tableau_bytes both.1
given_size e v = rw v (sized_good e).size

-- past 3 of another input and 4
pub lent_good : {want have answer space : ℕ} → or_else (size_of want have) (room_of answer space) ≡ 0 → (have ≡ want) × (answer ≤ space)
lent_good {want} {have} e = let z = or_else_none (size_of want have) _ e in (size_good z.0, room_good z.1)

-- ---- past 5 of a tableau that was read from bytes, and past 7 and 8
pub table_formed : {d n : ℕ} {t : List Pauli} (b : List ℕ) → t ≡ decode_tableau n b → tableau_range_of d t ≡ 0 → WellFormed d n t
table_formed b e r = rw e (decode_formed b (rw e at r))

pub table_sound : {d n : ℕ} {t : List Pauli} (b : List ℕ) → t ≡ decode_tableau n b → tests_of d n t ≡ 0 → WellFormed d n t × Sound d n t
table_sound {d} {t = t} b e r = let z = or_else_none (tableau_range_of d t) _ r in (table_formed b e z.0, sound_good z.1)

-- ---- each call's refusal is that of its lengths, and past these that of its numbers
pub image_parts : (d n : ℕ) (t p : List ℕ) (room : ℕ) → image_refusal d n t p room ≡ or_else (image_lengths d n (length t) (length p) room) (image_tests d n (decode_tableau n t) (decode n p))
image_parts d n t p room = simp or_else_assoc

pub compose_parts : (d n : ℕ) (t u : List ℕ) (room : ℕ) → compose_refusal d n t u room ≡ or_else (compose_lengths d n (length t) (length u) room) (compose_tests d n (decode_tableau n t) (decode_tableau n u))
compose_parts d n t u room = simp or_else_assoc

pub inverse_parts : (d n : ℕ) (t : List ℕ) (room : ℕ) → inverse_refusal d n t room ≡ or_else (inverse_lengths d n (length t) room) (tests_of d n (decode_tableau n t))
inverse_parts d n t room = simp or_else_assoc

-- ---- the tableau of a list
pub record TableauAccepted (d n : ℕ) (list : List ℕ) (room : ℕ) : Type 0 where
  pub given : Given d n
  pub fits : tableau_bytes n ≤ room
  pub legal : all_legal_rows d n (list_rows list) ≡ true

pub tableau_accepted : {d n : ℕ} (list : List ℕ) (room : ℕ) → tableau_refusal d n list room ≡ 0 → TableauAccepted d n list room
tableau_accepted {d} {n} list room e =
    let a = or_else_none (given_of d n) _ e in
    let b = or_else_none (list_size_of (length list)) _ a.1 in
    let c = or_else_none (room_of (tableau_bytes n) room) _ b.1 in
    record { given = given_good a.0; fits = room_good c.0; legal = row_good (all_legal_rows d n (list_rows list)) c.1 }
