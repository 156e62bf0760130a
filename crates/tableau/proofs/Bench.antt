-- Document 01's bench examples on tableaus and its text example, from the definitions, by computing. Qudits count from 0 here.
use mathlib.Core.Path.{◌≡◌, refl}
use mathlib.Core.List.{List, [], ◌∷◌}
use Prim.Native.Nat.{ℕ}
use Rattle.arith.specs.Bytes.{tab, number_at, bytes_of}
use Rattle.arith.specs.Residues.{neg}
use Rattle.arith.specs.Gcd.{gcd}
use Rattle.arith.specs.Refusals.{dimension_of, width_of, given_of, whole_of, list_size_of, room_of, row_of, pairing_of, parity_of}
use Rattle.pauli.specs.Pauli.{Pauli}
use Rattle.gates.specs.Row.{Row, F, S, A, Z}
use Rattle.gates.specs.Written.{meant, legal_row, all_rows}
use Rattle.tableau.specs.Tableau.{tableau_of}
use Rattle.tableau.specs.Soundness.{soundness_of}
use Rattle.tableau.specs.Bytes.{encode_tableau}
use Rattle.tableau.specs.Calls.{tableau_refusal, tableau_answer}

-- a Pauli of one qudit, and a tableau of one qudit
abbrev pub pauli : ℕ → ℕ → ℕ → Pauli
pauli h x z = record { phase = h; v = x ∷ []; w = z ∷ [] }

abbrev pub columns : Pauli → Pauli → List Pauli
columns a b = a ∷ b ∷ []

-- parity
abbrev pub c6 : Type 0
c6 = soundness_of 2 1 (columns (pauli 0 1 1) (pauli 0 0 1)) ≡ 8

-- sound, and S power 3 does it
abbrev pub c7 : Type 0
c7 = (soundness_of 2 1 (columns (pauli 1 1 1) (pauli 0 0 1)) ≡ 0) × (tableau_of 2 1 (S 0 3 ∷ []) ≡ columns (pauli 1 1 1) (pauli 0 0 1))

-- pairing
abbrev pub c9 : Type 0
c9 = soundness_of 4 1 (columns (pauli 0 2 0) (pauli 0 0 1)) ≡ 7

-- parity, and with phase 2 sound
abbrev pub c10 : Type 0
c10 = (soundness_of 4 1 (columns (pauli 1 1 0) (pauli 0 0 1)) ≡ 8) × (soundness_of 4 1 (columns (pauli 2 1 0) (pauli 0 0 1)) ≡ 0)

pub bench : c6 × c7 × c9 × c10
unfolding neg pairing_of parity_of
bench = (refl, (refl, refl), refl, (refl, refl))

-- ---- the text example
abbrev pub whole : List Row
whole = F 0 1 ∷ A 0 1 1 ∷ Z 1 3 ∷ []

-- a Pauli of two qudits: phase, v1, v2, w1, w2
abbrev pair : ℕ → ℕ → ℕ → ℕ → ℕ → Pauli
pair h x₁ x₂ z₁ z₂ = record { phase = h; v = x₁ ∷ x₂ ∷ []; w = z₁ ∷ z₂ ∷ [] }

abbrev pub whole_columns : List Pauli
whole_columns = pair 0 0 0 1 0 ∷ pair 6 0 1 0 0 ∷ pair 2 3 3 0 0 ∷ pair 0 0 0 3 1 ∷ []

pub whole_tableau : tableau_of 4 2 whole ≡ whole_columns
unfolding neg
whole_tableau = refl

-- the same from the list's bytes, to an output of 40 bytes and one of 39
abbrev whole_list : List ℕ
whole_list = bytes_of (1 ∷ 1 ∷ 0 ∷ 1 ∷ 3 ∷ 1 ∷ 2 ∷ 1 ∷ 6 ∷ 2 ∷ 0 ∷ 3 ∷ [])

whole_bytes : (tableau_refusal 4 2 whole_list 40 ≡ 0) × (tableau_refusal 4 2 whole_list 39 ≡ 4) × (tableau_answer 4 2 whole_list ≡ encode_tableau whole_columns)
unfolding neg gcd tab number_at bytes_of encode_tableau dimension_of width_of given_of whole_of list_size_of room_of row_of meant legal_row all_rows
whole_bytes = (refl, refl, refl)
