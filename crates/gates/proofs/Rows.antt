-- Every legal row is a gate: it keeps products and phases, its undo row is legal and undoes it, and it leaves a Pauli alone that is zero at its qudits.
use mathlib.Core.Path.{◌≡◌}
use mathlib.Core.List.{[], ◌∷◌}
use Prim.Native.Nat.{ℕ, ◌-◌, ◌<◌}
use native.Mathlib.Omega.{arith}
use Rattle.arith.proofs.Units.{inverse_below, inverse_pos, inverse_unit}
use Rattle.pauli.specs.Pauli.{Pauli, InRange}
use Rattle.pauli.proofs.Hom.{Hom}
use Rattle.pauli.proofs.Frame.{ZeroAt}
use Rattle.pauli.proofs.Gates.{Gate, gate_f, gate_s, gate_a, gate_m, gate_x, gate_z, gate_c, gate_w}
use Rattle.pauli.proofs.Relations.{c_by_a, w_by_a}
use Rattle.gates.specs.Row.{Row, F, S, A, M, X, Z, C, W, Legal, apply, run, undo}

-- zero at the row's qudits
abbrev pub Away : Row → Pauli → Type 0
Away (F i k) p = ZeroAt i p
Away (S i k) p = ZeroAt i p
Away (A i j k) p = ZeroAt i p × ZeroAt j p
Away (M i k) p = ZeroAt i p
Away (X i k) p = ZeroAt i p
Away (Z i k) p = ZeroAt i p
Away (C i j k) p = ZeroAt i p × ZeroAt j p
Away (W i j) p = ZeroAt i p × ZeroAt j p

pub row_gate : {d n : ℕ} (r : Row) → 1 < d → Legal d n r → Gate d n (apply d r) (apply d (undo d r)) (Away r)
row_gate (F i k) large l = gate_f i k large l.qudit l.power_low l.power_high
row_gate (S i k) large l = gate_s i k large l.qudit (omega arith)
row_gate (A i j k) large l = gate_a i j k large l.0.from_qudit l.0.to_qudit l.0.apart (omega arith)
row_gate (M i k) large l = gate_m i k large l.1.qudit l.0
row_gate (X i k) large l = gate_x i k large l.qudit (omega arith)
row_gate (Z i k) large l = gate_z i k large l.qudit (omega arith)
row_gate (C i j k) large l = gate_c i j k large l.0.from_qudit l.0.to_qudit l.0.apart (omega arith)
row_gate (W i j) large l = gate_w i j large l.from_qudit l.to_qudit l.apart

pub row_hom : {d n : ℕ} (r : Row) → 1 < d → Legal d n r → Hom d n (apply d r)
row_hom r large l = (row_gate r large l).hom

pub frame : {d n : ℕ} {p : Pauli} (r : Row) → 1 < d → Legal d n r → InRange d n p → Away r p → apply d r p ≡ p
frame r large l = (row_gate r large l).frame

pub undoes : (d n : ℕ) {p : Pauli} (r : Row) → 1 < d → Legal d n r → InRange d n p → apply d (undo d r) (apply d r p) ≡ p
undoes d n r large l = (row_gate r large l).undone

pub legal_undo : (d n : ℕ) (r : Row) → 1 < d → Legal d n r → Legal d n (undo d r)
legal_undo d n (F i k) large l = record { qudit = l.qudit; power_low = omega arith; power_high = omega arith }
legal_undo d n (S i k) large l = record { qudit = l.qudit; power_low = omega arith; power_high = omega arith }
legal_undo d n (A i j k) large l = (l.0, record { qudit = l.1.qudit; power_low = omega arith; power_high = omega arith })
legal_undo d n (M i k) large l =
    (inverse_unit d k large l.0, record { qudit = l.1.qudit; power_low = inverse_pos d k large l.0; power_high = omega (arith, inverse_below d k large l.0) })
legal_undo d n (X i k) large l = record { qudit = l.qudit; power_low = omega arith; power_high = omega arith }
legal_undo d n (Z i k) large l = record { qudit = l.qudit; power_low = omega arith; power_high = omega arith }
legal_undo d n (C i j k) large l = (l.0, record { qudit = l.1.qudit; power_low = omega arith; power_high = omega arith })
legal_undo d n (W i j) large l = l

-- ---- C and W by rows of the other kinds, as document 002 has them, (12) and (9)
pub c_rows : {d n : ℕ} {p : Pauli} (i j k : ℕ) → 1 < d → Legal d n (C i j k) → InRange d n p → run d (F j 1 ∷ A i j (d - k) ∷ F j 3 ∷ []) p ≡ apply d (C i j k) p
c_rows i j k large l r = c_by_a i j k (omega arith) l.0.from_qudit l.0.to_qudit l.0.apart (omega (arith, l.1)) r

pub w_rows : {d n : ℕ} {p : Pauli} (i j : ℕ) → 1 < d → Legal d n (W i j) → InRange d n p → run d (F i 2 ∷ A i j (d - 1) ∷ A j i 1 ∷ A i j (d - 1) ∷ []) p ≡ apply d (W i j) p
w_rows i j large l r = w_by_a i j (omega arith) l.from_qudit l.to_qudit l.apart r
