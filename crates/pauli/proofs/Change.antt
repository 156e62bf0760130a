-- The numbers that the code of a gate row computes in reduced steps. Assumes nothing.
use mathlib.Core.Path.{◌≡◌}
use mathlib.Core.List.{[], ◌∷◌}
use Prim.Native.Nat.{ℕ, ◌+◌, ◌*◌, ◌%◌, ◌<◌}
use Rattle.arith.specs.Residues.{neg}
use Rattle.arith.proofs.Cong.{Cong}
use Rattle.arith.proofs.Ring.{ring₁, ring₂, quote}

-- ---- as the code computes them and as the definitions have them
module _ (d k : ℕ) (pos : 0 < d) where
  pub z_phase : (δ x : ℕ) → Cong (2 * d) (δ + 2 * (k * x % d) % (2 * d)) (δ + 2 * (k * x))
  z_phase δ x = ring₂ d (k ∷ δ ∷ x ∷ []) pos (search quote depth 30) (search quote depth 30) tt

  pub x_phase : (δ x : ℕ) → Cong (2 * d) (δ + neg (2 * d) (2 * (k * x % d) % (2 * d))) (δ + neg (2 * d) (2 * (k * x)))
  x_phase δ x = ring₂ d (k ∷ δ ∷ x ∷ []) pos (search quote depth 30) (search quote depth 30) tt

  -- with x·(x + d) reduced before it is taken k times, and k times x·(x + d) reduced once
  pub s_phase : (δ x : ℕ) → Cong (2 * d) (δ + k * (x * (x + d) % (2 * d)) % (2 * d)) (δ + k * (x * (x + d)))
  s_phase δ x = ring₂ d (k ∷ δ ∷ x ∷ []) pos (search quote depth 30) (search quote depth 30) tt

  pub s_phase_once : (δ x : ℕ) → Cong (2 * d) (δ + k * (x * (x + d)) % (2 * d)) (δ + k * (x * (x + d)))
  s_phase_once δ x = ring₂ d (k ∷ δ ∷ x ∷ []) pos (search quote depth 30) (search quote depth 30) tt

  pub c_phase : (δ x y : ℕ) → Cong (2 * d) (δ + 2 * ((k * x % d) * y % d) % (2 * d)) (δ + 2 * (k * (x * y)))
  c_phase δ x y = ring₂ d (k ∷ δ ∷ x ∷ y ∷ []) pos (search quote depth 30) (search quote depth 30) tt

  pub plus_entry : (y x : ℕ) → Cong d (y + k * x % d) (y + k * x)
  plus_entry y x = ring₁ d (k ∷ y ∷ x ∷ []) pos (search quote depth 30) (search quote depth 30) tt

  pub minus_entry : (y x : ℕ) → Cong d (y + neg d (k * x % d)) (y + neg d (k * x))
  minus_entry y x = ring₁ d (k ∷ y ∷ x ∷ []) pos (search quote depth 30) (search quote depth 30) tt

-- the phases that F adds when done twice cancel
pub half_turn_phase : (d δ x z : ℕ) → 0 < d → Cong (2 * d) ((δ + neg (2 * d) (2 * (x * z))) % (2 * d) + neg (2 * d) (2 * ((neg d z % d) * x))) δ
half_turn_phase d δ x z pos = ring₂ d (δ ∷ x ∷ z ∷ []) pos (search quote depth 30) (search quote depth 30) tt

-- the difference of two reduced sums is that of the sums
reduced_difference : (d x y : ℕ) → 0 < d → Cong d (x % d + neg d (y % d)) (x + neg d y)
reduced_difference d x y pos = ring₁ d (x ∷ y ∷ []) pos (search quote depth 30) (search quote depth 30) tt

pub commutation_number_lem : (d : ℕ) {r p q s t x y : ℕ} → 0 < d → r ≡ (p + neg d q) % d → p ≡ s % d → q ≡ t % d → s ≡ x → t ≡ y → r ≡ (x + neg d y) % d
commutation_number_lem d {x = x} {y} pos e f g h k = rw (e, f, g, h, k) (reduced_difference d x y pos).same
