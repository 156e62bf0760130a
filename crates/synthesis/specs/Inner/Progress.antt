-- What the code holds at a state of the reduction, and what it is that code does a step of the reduction.
use Rattle.std.specs.Prelude.{◌≡◌, true, List, map, reverse, ℕ, ◌+◌, ◌*◌, ◌≤◌, length, Option, None, Some, IfSome}
use Rattle.std.proofs.lemmas.List.Edits.{sets}
use Rattle.pauli.specs.Pauli.{Pauli}
use Rattle.gates.specs.Row.{Row, undo}
use Rattle.gates.specs.Written.{WrittenRow, written, meant, legal_row, encode_rows}
use Rattle.gates.specs.Inner.View.{view_row}
use Rattle.gates.specs.declared.Row.{Row as Code}
use Rattle.synthesis.specs.Inner.Reduce.{State, put}

-- the undo rows of the rows so far, in the order in which those were made
unfoldable pub undo_rows : ℕ → List Row → List WrittenRow
undo_rows d rows = reverse (map (λ r. written (undo d r)) rows)

-- the code has reached s from an output `old` with `first` rows: its tableau is that of s, and behind those rows stand the undo rows of s; no other byte has changed
pub record Holds (d first : ℕ) (old : List ℕ) (t : List Pauli) (out : List ℕ) (count : ℕ) (s : State) : Type 0 where
  pub tableau : t ≡ s.tableau
  pub counted : count ≡ first + length s.rows
  pub listed : out ≡ sets old (8 * first) (encode_rows (undo_rows d s.rows))

-- from t, out and count to t', out' and count' the code does the step, from whatever state it has reached; it makes at most `most` rows
pub record Does (d most : ℕ) (step : State → State) (t : List Pauli) (out : List ℕ) (count : ℕ) (t' : List Pauli) (out' : List ℕ) (count' : ℕ) : Type 0 where
  pub does : (first : ℕ) (old : List ℕ) (s : State) → Holds d first old t out count s → Holds d first old t' out' count' (step s)
  pub within : count' ≤ count + most

-- a row is put behind, if there is one
abbrev pub put_made : ℕ → Option Code → State → State
put_made d None s = s
put_made d (Some row) s = put d (meant (view_row row)) s

-- the row made, or none, is what the step puts behind at the tableau t
pub record Says (d n : ℕ) (step : State → State) (t : List Pauli) (made : Option Code) : Type 0 where
  pub legal : IfSome made (λ row. legal_row d n (view_row row) ≡ true)
  pub puts : (s : State) → t ≡ s.tableau → put_made d made s ≡ step s
