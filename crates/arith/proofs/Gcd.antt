-- Laws of the greatest common divisor: it divides both, every common divisor divides it; Bezout, Gauss, the inverse of a unit.
use mathlib.Core.Path.{◌≡◌, refl, ◌∙◌, ap}
use mathlib.Core.List.{[], ◌∷◌}
use Prim.Native.Nat.{ℕ, zero, suc, ◌+◌, ◌*◌, ◌/◌, ◌%◌, ◌≤◌, ◌<◌}
use native.Mathlib.Nat.{mod-lt, mod-add-div', div-add-mod', not-suc-le-zero, zero-lt-suc, le_refl}
use native.Mathlib.Omega.{arith}
use Rattle.arith.specs.Gcd.{euclid, gcd}
use Rattle.arith.proofs.Cong.{Cong, cong_intro, cong_elim, cong_refl, cong_sym, cong_trans, cong_mul, cong_of_eq, cong_mod}
use Rattle.arith.specs.Residues.{neg}
use Rattle.arith.proofs.Ring.{ring₁_by, times, ◌also◌, quote}
use Rattle.arith.proofs.Divides.{Dvd, dvd_refl, dvd_zero, dvd_trans, dvd_add, dvd_mul_l, dvd_rest, dvd_antisym, dvd_cong, cong_dvd, dvd_resp}

-- g is a common divisor of a and b, and every common divisor divides it
record Facts (a b g : ℕ) : Type 0 where
  left : Dvd g a
  right : Dvd g b
  greatest : (c : ℕ) → Dvd c a → Dvd c b → Dvd c g

facts_zero : (b : ℕ) → Facts 0 b b
facts_zero b = record { left = dvd_zero b; right = dvd_refl b; greatest = λ c h k. k }

facts_step : (a b g : ℕ) → Facts (b % suc a) (suc a) g → Facts (suc a) b g
facts_step a b g f = record {
  left = f.right;
  right = rw (mod-add-div' b (suc a)) at (dvd_add f.left (dvd_mul_l (b / suc a) f.right));
  greatest = λ c h k. f.greatest c (dvd_rest (b / suc a * suc a) (b % suc a) (rw div-add-mod' k) (dvd_mul_l (b / suc a) h)) h;
}

facts : (n a b : ℕ) → a ≤ n → Facts a b (euclid n a b)
unfolding euclid
facts zero zero b h = facts_zero b
facts zero (suc a) b h = absurd (not-suc-le-zero h)
facts (suc n) zero b h = facts_zero b
facts (suc n) (suc a) b h = facts_step a b (euclid n (b % suc a) (suc a)) (facts n (b % suc a) (suc a) (omega (arith, mod-lt b (zero-lt-suc a))))

pub gcd_left : (a b : ℕ) → Dvd (gcd a b) a
unfolding gcd
gcd_left a b = (facts a a b (le_refl a)).left

pub gcd_right : (a b : ℕ) → Dvd (gcd a b) b
unfolding gcd
gcd_right a b = (facts a a b (le_refl a)).right

pub gcd_greatest : {c a b : ℕ} → Dvd c a → Dvd c b → Dvd c (gcd a b)
unfolding gcd
gcd_greatest {c} {a} {b} h k = (facts a a b (le_refl a)).greatest c h k

-- these three facts determine it
pub gcd_unique : {g a b : ℕ} → Dvd g a → Dvd g b → ((c : ℕ) → Dvd c a → Dvd c b → Dvd c g) → gcd a b ≡ g
gcd_unique {g} {a} {b} h k f = dvd_antisym (f (gcd a b) (gcd_left a b) (gcd_right a b)) (gcd_greatest h k)

pub gcd_zero_left : (d : ℕ) → gcd 0 d ≡ d
unfolding gcd euclid
gcd_zero_left d = refl

-- what a loop of the code does: gcd a b = gcd (b % a) a for a positive a
gcd_step : (a b : ℕ) → gcd (suc a) b ≡ gcd (b % suc a) (suc a)
gcd_step a b =
    let f = facts_step a b (gcd (b % suc a) (suc a)) (record { left = gcd_left (b % suc a) (suc a); right = gcd_right (b % suc a) (suc a); greatest = λ c h k. gcd_greatest h k }) in
    gcd_unique f.left f.right f.greatest

pub gcd_next : (x y : ℕ) → 0 < x → gcd x y ≡ gcd (y % x) x
gcd_next zero y p = absurd (not-suc-le-zero p)
gcd_next (suc x) y p = gcd_step x y

-- it depends on a only modulo d
pub gcd_cong : {d a b : ℕ} → Cong d a b → gcd a d ≡ gcd b d
gcd_cong {d} {a} {b} e = gcd_unique (dvd_resp (gcd_right b d) (cong_sym e) (gcd_left b d)) (gcd_right b d) (λ c h k. gcd_greatest (dvd_resp k e h) k)

-- a number taken modulo d has the common divisor with d that it had
pub gcd_mod : (d y : ℕ) {x : ℕ} → x ≡ y % d → gcd x d ≡ gcd y d
gcd_mod d y e = ap (λ (z : ℕ). gcd z d) e ∙ gcd_cong (cong_mod y)

-- of three numbers, in another order
pub gcd_order : (a b d : ℕ) → gcd (gcd a b) d ≡ gcd b (gcd a d)
gcd_order a b d =
    let g = gcd_right b (gcd a d) in
    gcd_unique (gcd_greatest (dvd_trans g (gcd_left a d)) (gcd_left b (gcd a d))) (dvd_trans g (gcd_right a d))
    (λ c h k. gcd_greatest (dvd_trans h (gcd_right a b)) (gcd_greatest (dvd_trans h (gcd_left a b)) k))

-- of three numbers, it depends on two only modulo the third
both_divides : {d a a' b b' : ℕ} → Cong d a a' → Cong d b b' → Dvd (gcd (gcd a b) d) (gcd (gcd a' b') d)
both_divides {d} {a} {a'} {b} {b'} e f =
    let l = gcd_left (gcd a b) d in
    let r = gcd_right (gcd a b) d in
    gcd_greatest (gcd_greatest (dvd_resp r e (dvd_trans l (gcd_left a b))) (dvd_resp r f (dvd_trans l (gcd_right a b)))) r

pub both_cong : {d a a' b b' : ℕ} → Cong d a a' → Cong d b b' → gcd (gcd a b) d ≡ gcd (gcd a' b') d
both_cong e f = dvd_antisym (both_divides e f) (both_divides (cong_sym e) (cong_sym f))

-- ---- Bezout, modulo d: u·a ≡ gcd a d. By Euclid's recursion: u'·(d % a) ≡ g (mod a) gives k and l with u'·(d % a) + k·a = g + l·a, and then u = k − l − u'·(d / a).
pub record Bezout (a d g : ℕ) : Type 0 where
  pub u : ℕ
  pub eq : Cong d (u * a) g

bezout_algebra : (d s r q u k l g : ℕ) → 0 < d → r + q * s ≡ d → u * r + k * s ≡ g + l * s → Cong d ((k + neg d (l + u * q)) * s) g
bezout_algebra d s r q u k l g p e f = ring₁_by d (s ∷ r ∷ q ∷ u ∷ k ∷ l ∷ g ∷ []) p
    (times {z = neg d u} (search quote) (search quote) (search quote) (cong_of_eq e) also times {z = 1} (search quote) (search quote) (search quote) (cong_of_eq f))
    (search quote depth 30) (search quote depth 30) tt

bezout_step : (a d g : ℕ) → 0 < d → Bezout (d % suc a) (suc a) g → Bezout (suc a) d g
bezout_step a d g p z =
    let w = cong_elim z.eq in
    record { u = w.k + neg d (w.l + z.u * (d / suc a)); eq = bezout_algebra d (suc a) (d % suc a) (d / suc a) z.u w.k w.l g p (mod-add-div' d (suc a)) w.eq }

bezout_at : (n a d : ℕ) → a ≤ n → 0 < d → Bezout a d (euclid n a d)
unfolding euclid
bezout_at zero a d h p = record { u = 0; eq = cong_intro 1 0 (omega arith) }
bezout_at (suc n) zero d h p = record { u = 0; eq = cong_intro 1 0 (omega arith) }
bezout_at (suc n) (suc a) d h p = bezout_step a d (euclid n (d % suc a) (suc a)) p (bezout_at n (d % suc a) (suc a) (omega (arith, mod-lt d (zero-lt-suc a))) (zero-lt-suc a))

pub bezout : (a d : ℕ) → 0 < d → Bezout a d (gcd a d)
unfolding gcd
bezout a d p = bezout_at a a d (le_refl a) p

-- ---- coprime numbers
-- Gauss: what divides a product and is coprime to one factor divides the other
pub gauss : {a : ℕ} (b c : ℕ) → 0 < a → gcd b a ≡ 1 → Dvd a (b * c) → Dvd a c
gauss {a} b c p e h =
    let z = bezout b a p in
    cong_dvd (gauss_algebra a b c z.u p (cong_trans z.eq (cong_of_eq e)) (dvd_cong h))
  where
    -- c = c·(1 − u·b) + u·(b·c)
    gauss_algebra : (a b c u : ℕ) → 0 < a → Cong a (u * b) 1 → Cong a (b * c) 0 → Cong a c 0
    gauss_algebra a b c u p h k = ring₁_by a (b ∷ c ∷ u ∷ []) p
        (times {z = neg a c} (search quote) (search quote) (search quote) h also times {z = u} (search quote) (search quote) (search quote) k)
        (search quote depth 30) (search quote depth 30) tt

-- a unit has one inverse: u = u·(w·a) + u·(1 − w·a), and w likewise
pub inverse_unique : {d : ℕ} (a : ℕ) {u w : ℕ} → 0 < d → Cong d (u * a) 1 → Cong d (w * a) 1 → Cong d u w
inverse_unique {d} a {u} {w} p h k = ring₁_by d (a ∷ u ∷ w ∷ []) p
    (times {z = w} (search quote) (search quote) (search quote) h also times {z = neg d u} (search quote) (search quote) (search quote) k)
    (search quote depth 30) (search quote depth 30) tt

-- a unit has an inverse below d
pub record Inverse (d a : ℕ) : Type 0 where
  pub inv : ℕ
  pub below : inv < d
  pub eq : Cong d (inv * a) 1

pub inverse : (d a : ℕ) → 0 < d → gcd a d ≡ 1 → Inverse d a
inverse d a p e = let z = bezout a d p in record {
  inv = z.u % d;
  below = mod-lt z.u p;
  eq = cong_trans (cong_mul (cong_mod z.u) (cong_refl a)) (cong_trans z.eq (cong_of_eq e));
}
