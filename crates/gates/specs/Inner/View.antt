-- What the code's rows stand for: the numbers as they are written.
use Rattle.std.specs.Prelude.{◌≡◌, cond, ℕ, ◌-◌}
use Rattle.arith.specs.Units.{inverse_of}
use Rattle.pauli.specs.Pauli.{Pauli}
use Rattle.pauli.specs.Inner.Touched.{Touched, touched, replaced, Has}
use Rattle.gates.specs.Row.{apply}
use Rattle.gates.specs.Written.{WrittenRow, takes_two, meant}
pub use Rattle.gates.specs.declared.Row.{Row as Code}
use Rattle.gates.specs.declared.Ready.{Ready}

abbrev pub view_row : Code → WrittenRow
view_row r = record { kind = r.kind; first = r.first; second = r.second; power = r.power }

-- a row that was made ready: where its kind is M, the inverse of its power is beside it
abbrev pub InverseRight : ℕ → Ready → Type 0
InverseRight d r = r.row.kind ≡ 4 → r.inverse.0 ≡ inverse_of d r.row.power

-- the second qudit of a row, counted from 0: the first again where the kind takes one
abbrev pub other_of : WrittenRow → ℕ
other_of w = cond (takes_two w.kind) (w.second - 1) (w.first - 1)

-- the row makes the numbers `new` of the numbers `old` at its qudits i and j: on every Pauli that has those, its effect is to put these in their place
abbrev pub ActsAt : ℕ → WrittenRow → ℕ → ℕ → Touched → Touched → Type 0
ActsAt d w i j old new = (p : Pauli) → Has i p → Has j p → touched i j p ≡ old → apply d (meant w) p ≡ replaced i j new p

abbrev pub Acts : ℕ → WrittenRow → Touched → Touched → Type 0
Acts d w old new = ActsAt d w (w.first - 1) (other_of w) old new
