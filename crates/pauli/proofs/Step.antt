-- A single gate, by two numbers: it adds `shift p` to the phase of p, and `twist p q` to the dot of p's w and q's v.
-- That the shift of a product is the sum of the shifts and twice the twist keeps products.
use mathlib.Core.Path.{◌≡◌, ◌∙◌}
use mathlib.Core.List.{[], ◌∷◌}
use Prim.Native.Nat.{ℕ, ◌+◌, ◌*◌, ◌%◌, ◌<◌}
use Rattle.arith.proofs.Cong.{Cong, cong_scale}
use Rattle.arith.specs.Residues.{neg}
use Rattle.arith.proofs.Ring.{ring₂_by, times, ◌also◌, quote}
use Rattle.pauli.specs.Pauli.{Pauli, InRange, dot, plus, product, phase_only}
use Rattle.pauli.proofs.Ranges.{product_range, pauli_path}
use Rattle.pauli.proofs.Hom.{Hom}

pub record Step (d n : ℕ) (f : Pauli → Pauli) : Type 0 where
  pub shift : Pauli → ℕ
  pub twist : Pauli → Pauli → ℕ
  pub range : {p : Pauli} → InRange d n p → InRange d n (f p)
  pub phase_by : {p : Pauli} → InRange d n p → (f p).phase ≡ (p.phase + shift p) % (2 * d)
  pub dot_by : {p q : Pauli} → InRange d n p → InRange d n q → Cong d (dot (f p).w (f q).v) (dot p.w q.v + twist p q)
  pub quadratic : {p q : Pauli} → InRange d n p → InRange d n q → Cong (2 * d) (shift (product d p q)) (shift p + shift q + 2 * twist p q)
  pub v_plus : {p q : Pauli} → InRange d n p → InRange d n q → (f (product d p q)).v ≡ plus d (f p).v (f q).v
  pub w_plus : {p q : Pauli} → InRange d n p → InRange d n q → (f (product d p q)).w ≡ plus d (f p).w (f q).w
  pub phases : (h : ℕ) → h < 2 * d → f (phase_only n h) ≡ phase_only n h

-- the phases of a product: x and y are the dots before and after
product_phase : (d δ ε x y t φ α β : ℕ) → 0 < d → Cong d y (x + t) → Cong (2 * d) φ (α + β + 2 * t)
    → Cong (2 * d) ((δ + ε + 2 * x) % (2 * d) + φ) ((δ + α) % (2 * d) + (ε + β) % (2 * d) + 2 * y)
product_phase d δ ε x y t φ α β p e f = ring₂_by d (δ ∷ ε ∷ x ∷ y ∷ t ∷ φ ∷ α ∷ β ∷ []) p
    (times {z = neg (2 * d) 1} (search quote) (search quote) (search quote depth 30) (cong_scale 2 e) also times {z = 1} (search quote) (search quote) (search quote depth 30) f)
    (search quote depth 30) (search quote depth 30) tt

pub step_hom : {d n : ℕ} {f : Pauli → Pauli} → 0 < d → Step d n f → Hom d n f
step_hom {d} {n} {f} pos s = record {
  range = λ p a. s.range a;
  keeps = λ p q a b. pauli_path (phase_kept p q a b) (s.v_plus a b) (s.w_plus a b);
  phases = s.phases;
}
  where
    phase_kept : (p q : Pauli) → InRange d n p → InRange d n q → (f (product d p q)).phase ≡ (product d (f p) (f q)).phase
    phase_kept p q a b =
        s.phase_by (product_range pos a b) ∙ rw (s.phase_by a, s.phase_by b)
        (product_phase d p.phase q.phase (dot p.w q.v) (dot (f p).w (f q).v) (s.twist p q) (s.shift (product d p q)) (s.shift p) (s.shift q) pos (s.dot_by a b) (s.quadratic a b)).same
