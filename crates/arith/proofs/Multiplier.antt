-- For all a, b and d ≥ 1 some m below d has gcd (a + m·b) d = gcd (gcd a b) d.
-- No primes are needed: m is the largest divisor of d that is coprime to a (after the common divisor of a, b, d is taken out).
use mathlib.Core.Path.{◌≡◌, refl, sym, ◌∙◌}
use Prim.Native.Nat.{ℕ, zero, suc, ◌+◌, ◌*◌, ◌%◌, ◌≤◌, ◌<◌}
use native.Mathlib.Nat.{mod-lt, le_refl, mul-le-mul_right}
use native.Mathlib.Decide.{ℕ_discrete}
use native.Mathlib.Omega.{arith}
use Rattle.arith.proofs.Cong.{Cong, cong_refl, cong_trans, cong_add, cong_mul, cong_of_eq, cong_scale, cong_mod, factor_pos}
use Rattle.arith.proofs.Divides.{Dvd, dvd_refl, dvd_trans, dvd_add, dvd_mul_l, dvd_mul_r, dvd_rest, dvd_one, dvd_resp, dvd_scale, dvd_unscale, dvd_rest_l, dvd_as, dvd_pos}
use Rattle.arith.specs.Gcd.{gcd}
use Rattle.arith.proofs.Gcd.{gcd_left, gcd_right, gcd_greatest, gcd_unique, gcd_cong, bezout, gauss}

-- a and b have no common divisor but 1
pub record Coprime (a b : ℕ) : Type 0 where
  pub only_one : (c : ℕ) → Dvd c a → Dvd c b → c ≡ 1

coprime_gcd : {a b : ℕ} → Coprime a b → gcd a b ≡ 1
coprime_gcd {a} {b} h = h.only_one (gcd a b) (gcd_left a b) (gcd_right a b)

gcd_coprime : {a b : ℕ} → gcd a b ≡ 1 → Coprime a b
gcd_coprime {a} {b} e = record { only_one = λ c h k. dvd_one (rw e at (gcd_greatest h k)) }

-- The part of d that is coprime to a: it divides d, is coprime to a, and every divisor of d that is coprime to a divides it.
record Part (a d m : ℕ) : Type 0 where
  divides : Dvd m d
  coprime : Coprime m a
  largest : (e : ℕ) → 0 < e → Dvd e d → Coprime e a → Dvd e m

part_here : {a d : ℕ} → gcd a d ≡ 1 → Part a d d
part_here {a} {d} e = record { divides = dvd_refl d; coprime = record { only_one = λ c h k. (gcd_coprime e).only_one c k h }; largest = λ e p h k. h }

-- from the part of the quotient: g divides a, so what is coprime to a and divides g·d' divides d'
part_step : {a d d' m : ℕ} (g : ℕ) → Dvd g a → d ≡ g * d' → Part a d' m → Part a d m
part_step {a} {d} {d'} {m} g h e z = record {
  divides = rw e (dvd_mul_l g z.divides);
  coprime = z.coprime;
  largest = λ x p k c. z.largest x p (gauss g d' p (coprime_gcd (record { only_one = λ y i j. c.only_one y j (dvd_trans i h) })) (rw e at k)) c;
}

half : {d n : ℕ} (g q : ℕ) → 0 < q → 2 ≤ g → d ≡ g * q → d ≤ suc n → q ≤ n
half g q p h e k = omega (arith, mul-le-mul_right q h)

-- d is divided by gcd a d until that is 1. n bounds the divisions: d falls at each.
some_part : (n a d : ℕ) → 0 < d → d ≤ n → (m : ℕ) × Part a d m
some_part zero a d p h = absurd (omega arith)
some_part (suc n) a d p h = go (λ d' p' h'. some_part n a d' p' h') (ℕ_discrete (gcd a d) 1)
  where
    go : ((d' : ℕ) → 0 < d' → d' ≤ n → (m : ℕ) × Part a d' m) → Dec (gcd a d ≡ 1) → (m : ℕ) × Part a d m
    go rec (yes e) = (d, part_here e)
    go rec (no e) =
        let k = gcd_right a d in
        let pos = factor_pos (gcd a d) k.q p k.eq in
        let z = rec k.q pos.1 (half (gcd a d) k.q pos.1 (omega arith) k.eq h) in
        (z.0, part_step (gcd a d) (gcd_left a d) k.eq z.1)

-- ---- the case in which a, b and d have no common divisor: then a + m·b is coprime to d, for that part m
module _ {a b d m : ℕ} (p : 0 < d) (z : Part a d m) (one : (c : ℕ) → Dvd c a → Dvd c b → Dvd c d → c ≡ 1) where
  -- a common divisor g of a + m·b and d is coprime to a: a common divisor e of g and a divides m·b, hence b
  to_a : (g : ℕ) → Dvd g (a + m * b) → Dvd g d → Coprime g a
  to_a g h k = record { only_one = λ e i j. one e j (gauss m b (dvd_pos p (dvd_trans i k)) (coprime_gcd (record { only_one = λ c x y. z.coprime.only_one c x (dvd_trans y j) })) (dvd_rest a (m * b) (dvd_trans i h) j)) (dvd_trans i k) }

  -- so it divides m, hence a, hence is 1
  coprime_sum : Coprime (a + m * b) d
  coprime_sum = record { only_one = λ g h k. (to_a g h k).only_one g (dvd_refl g) (dvd_rest_l a (m * b) h (dvd_mul_r b (z.largest g (dvd_pos p k) k (to_a g h k)))) }

-- ---- THE THEOREM
pub record Multiplier (a b d : ℕ) : Type 0 where
  pub m : ℕ
  pub below : m < d
  pub eq : gcd (a + m * b) d ≡ gcd (gcd a b) d

-- the case of g·a, g·b and g·d, where every common divisor divides g
module _ (g a b d : ℕ) (p : 0 < g * d) (top : (c : ℕ) → Dvd c (g * a) → Dvd c (g * b) → Dvd c (g * d) → Dvd c g) where
  -- a, b and d have no common divisor but 1
  no_common : (c : ℕ) → Dvd c a → Dvd c b → Dvd c d → c ≡ 1
  no_common c h k l = dvd_one (dvd_unscale g (factor_pos g d p refl).0 (dvd_as (omega arith) (top (g * c) (dvd_scale g h) (dvd_scale g k) (dvd_scale g l))))

  -- if a + m·b is coprime to d, then g is the common divisor of g·a + m·(g·b) and g·d: it is a multiple of the former modulo the latter
  scaled : (m : ℕ) → Coprime (a + m * b) d → gcd (g * a + m * (g * b)) (g * d) ≡ g
  scaled m h =
      let pos : 0 < d = (factor_pos g d p refl).1 in
      let z = bezout (a + m * b) d pos in
      let e : Cong (g * d) (g * (z.u * (a + m * b))) (g * 1) = cong_scale g (cong_trans z.eq (cong_of_eq (coprime_gcd h))) in
      gcd_unique
      (dvd_add (dvd_mul_r a (dvd_refl g)) (dvd_mul_l m (dvd_mul_r b (dvd_refl g))))
      (dvd_mul_r d (dvd_refl g))
      (λ c i j. dvd_as (omega arith) (dvd_resp j e (dvd_as (omega arith) (dvd_mul_l z.u i))))

  found : (m : ℕ) × (gcd (g * a + m * (g * b)) (g * d) ≡ g)
  found =
      let pos : 0 < d = (factor_pos g d p refl).1 in
      let z = some_part d a d pos (le_refl d) in
      (z.0, scaled z.0 (coprime_sum pos z.1 no_common))

-- in general: the numbers are gcd (gcd a b) d times others, and m is reduced modulo d
-- (over variables, so that the equations can be rewritten with)
respell : {a b d g : ℕ} (a' b' d' m : ℕ) → a ≡ g * a' → b ≡ g * b' → d ≡ g * d' → gcd (g * a' + m * (g * b')) (g * d') ≡ g → gcd (a + m * b) d ≡ g
respell a' b' d' m ea eb ed e = rw (ea, eb, ed) e

pub multiplier : (a b d : ℕ) → 0 < d → Multiplier a b d
multiplier a b d p =
    let ha = dvd_trans (gcd_left (gcd a b) d) (gcd_left a b) in
    let hb = dvd_trans (gcd_left (gcd a b) d) (gcd_right a b) in
    let hd = gcd_right (gcd a b) d in
    let z = found (gcd (gcd a b) d) ha.q hb.q hd.q (omega (arith, hd.eq))
    (λ c h k l. gcd_greatest (gcd_greatest (dvd_as (sym ha.eq) h) (dvd_as (sym hb.eq) k)) (dvd_as (sym hd.eq) l)) in
    record {
      m = z.0 % d;
      below = mod-lt z.0 p;
      eq = gcd_cong (cong_add (cong_refl a) (cong_mul (cong_mod z.0) (cong_refl b))) ∙ respell ha.q hb.q hd.q z.0 ha.eq hb.eq hd.eq z.1;
    }
