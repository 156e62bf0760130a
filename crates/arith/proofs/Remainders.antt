-- Numbers reduced modulo m: a remainder that is known, nothing added, negatives, and halves.
use mathlib.Core.Path.{◌≡◌, ◌∙◌, ap}
use mathlib.Core.List.{[], ◌∷◌}
use Prim.Native.Nat.{ℕ, ◌+◌, ◌*◌, ◌/◌, ◌%◌, ◌<◌}
use native.Mathlib.Nat.{mod-add-div', mod-eq_of_lt, mul-zero}
use native.Mathlib.Omega.{arith}
use Rattle.arith.proofs.Cong.{Cong, neg_law, cong_refl, cong_trans, cong_add, cong_of_eq, cong_mod, cong_scale}
use Rattle.arith.specs.Residues.{neg}
use Rattle.arith.proofs.Ring.{ring₁, quote}

-- what a is congruent to and is below m is its remainder
pub mod_of : {m : ℕ} (a : ℕ) {x : ℕ} → Cong m a x → x < m → a % m ≡ x
mod_of a h l = h.same ∙ mod-eq_of_lt l

-- nothing added, to a number below m
pub idle : {m h x : ℕ} → h < m → Cong m x 0 → (h + x) % m ≡ h
idle {m} {h} {x} l c = mod_of (h + x) (cong_trans (cong_add (cong_refl h) c) (cong_of_eq (omega arith))) l

-- a multiple of nothing, and the negative of nothing
pub mul_none : (k : ℕ) {x : ℕ} → x ≡ 0 → k * x ≡ 0
mul_none k e = ap (λ (y : ℕ). k * y) e ∙ mul-zero k

pub neg_none : {m x : ℕ} → 0 < m → x ≡ 0 → Cong m (neg m x) 0
neg_none {m} {x} p e = cong_trans (cong_of_eq (omega arith)) (neg_law p x)

pub neg_zero : (m x : ℕ) → 0 < m → x ≡ 0 → neg m x % m ≡ 0
neg_zero m x p e = mod_of (neg m x) (neg_none p e) p

-- two negatives
pub neg_neg : (m x : ℕ) → x < m → neg m (neg m x % m) % m ≡ x
neg_neg m x l = mod_of (neg m (neg m x % m)) (ring₁ m (x ∷ []) (omega arith) (search quote depth 30) (search quote) tt) l

-- half of an even phase is the residue whose double it is
pub half_doubled : (d h : ℕ) → h < 2 * d → h % 2 ≡ 0 → 2 * (h / 2 % d) % (2 * d) ≡ h
half_doubled d h l even = mod_of (2 * (h / 2 % d)) (cong_trans (cong_scale 2 (cong_mod (h / 2))) (cong_of_eq (omega (arith, mod-add-div' h 2)))) l
