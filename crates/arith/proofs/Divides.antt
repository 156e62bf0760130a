-- Divisibility on the native ℕ with its quotient in hand: `Dvd a b` holds a q with b = a·q.
-- (The library's `a ∣ b` says only that some q exists; `as_∣` goes there, where the library's lemmas are.)
use mathlib.Core.Path.{◌≡◌, sym, ◌∙◌, ap}
use Prim.Native.Nat.{ℕ, ◌+◌, ◌*◌, ◌-◌, ◌/◌, ◌<◌, ◌∣◌}
use native.Mathlib.Nat.{mul_assoc, mul-sub, zero-mod, mod-add-div', dvd_antisymm, eq_of_mul-eq-mul_left}
use native.Mathlib.Omega.{arith}
use Rattle.arith.proofs.Cong.{Cong, cong_intro, cong_elim, factor_pos}

pub record Dvd (a b : ℕ) : Type 0 where
  pub q : ℕ
  pub eq : b ≡ a * q

as_∣ : {a b : ℕ} → Dvd a b → a ∣ b
as_∣ h = ∣ (h.q, h.eq) ∣₁

pub dvd_refl : (a : ℕ) → Dvd a a
dvd_refl a = record { q = 1; eq = omega arith }

pub dvd_zero : (a : ℕ) → Dvd a 0
dvd_zero a = record { q = 0; eq = omega arith }

one_dvd : (a : ℕ) → Dvd 1 a
one_dvd a = record { q = a; eq = omega arith }

pub dvd_trans : {a b c : ℕ} → Dvd a b → Dvd b c → Dvd a c
dvd_trans {a} {b} {c} h k = record { q = h.q * k.q; eq = k.eq ∙ ap (λ (x : ℕ). x * k.q) h.eq ∙ mul_assoc a h.q k.q }

-- the number divided, written another way
pub dvd_as : {c a b : ℕ} → a ≡ b → Dvd c a → Dvd c b
dvd_as e h = record { q = h.q; eq = sym e ∙ h.eq }

pub dvd_add : {c a b : ℕ} → Dvd c a → Dvd c b → Dvd c (a + b)
dvd_add h k = record { q = h.q + k.q; eq = omega arith }

-- a multiple of b, by a factor on the left or on the right
pub dvd_mul_l : {c b : ℕ} (a : ℕ) → Dvd c b → Dvd c (a * b)
dvd_mul_l {c} {b} a h = record { q = a * h.q; eq = omega (arith, ap (λ (x : ℕ). a * x) h.eq) }

pub dvd_mul_r : {c b : ℕ} (a : ℕ) → Dvd c b → Dvd c (b * a)
dvd_mul_r {c} {b} a h = record { q = h.q * a; eq = omega (arith, ap (λ (x : ℕ). x * a) h.eq) }

-- what divides a sum and its first part divides its second
pub dvd_rest : {c : ℕ} (a b : ℕ) → Dvd c (a + b) → Dvd c a → Dvd c b
dvd_rest {c} a b h k = record { q = h.q - k.q; eq = omega (arith, mul-sub c h.q k.q) }

-- and the other way round
pub dvd_rest_l : {c : ℕ} (a b : ℕ) → Dvd c (a + b) → Dvd c b → Dvd c a
dvd_rest_l {c} a b h k = record { q = h.q - k.q; eq = omega (arith, mul-sub c h.q k.q) }

-- a divisor of a positive number is positive
pub dvd_pos : {a b : ℕ} → 0 < b → Dvd a b → 0 < a
dvd_pos {a} p h = (factor_pos a h.q p h.eq).0

pub dvd_antisym : {a b : ℕ} → Dvd a b → Dvd b a → a ≡ b
dvd_antisym h k = dvd_antisymm (as_∣ h) (as_∣ k)

pub dvd_one : {a : ℕ} → Dvd a 1 → a ≡ 1
dvd_one {a} h = dvd_antisym h (one_dvd a)

-- a factor may be put before both, and taken away again
pub dvd_scale : {a b : ℕ} (c : ℕ) → Dvd a b → Dvd (c * a) (c * b)
dvd_scale c h = record { q = h.q; eq = omega (arith, ap (λ (x : ℕ). c * x) h.eq) }

pub dvd_unscale : {a b : ℕ} (c : ℕ) → 0 < c → Dvd (c * a) (c * b) → Dvd a b
dvd_unscale {a} {b} c p h = record { q = h.q; eq = eq_of_mul-eq-mul_left c p b (a * h.q) (h.eq ∙ mul_assoc c a h.q) }

-- multiples of m are the numbers congruent to 0
pub dvd_cong : {m a : ℕ} → Dvd m a → Cong m a 0
dvd_cong h = cong_intro 0 h.q (omega arith)

pub cong_dvd : {m a : ℕ} → Cong m a 0 → Dvd m a
cong_dvd {m} {a} h = record { q = a / m; eq = omega (arith, mod-add-div' a m, h.same, zero-mod m) }

-- a divisor of the modulus divides both of two congruent numbers or none
pub dvd_resp : {m a b c : ℕ} → Dvd c m → Cong m a b → Dvd c a → Dvd c b
dvd_resp {m} {a} {b} {c} h e k =
    let w = cong_elim e in
    dvd_rest (w.l * m) b (record { q = k.q + w.k * h.q; eq = omega (arith, w.eq, ap (λ (x : ℕ). w.k * x) h.eq) }) (dvd_mul_l w.l h)
