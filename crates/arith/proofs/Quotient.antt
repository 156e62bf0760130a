-- The quotient modulo d: where it is there, where not, and by Euclid's algorithm.
use mathlib.Core.Path.{◌≡◌, refl, sym, ◌∙◌, ap, subst}
use mathlib.Core.Bool.{Bool, true, false, not}
use mathlib.Core.List.{[], ◌∷◌}
use mathlib.Core.Logic.{◌≢◌}
use Prim.Native.Nat.{ℕ, zero, suc, ◌+◌, ◌*◌, ◌-◌, ◌/◌, ◌%◌, ◌≤◌, ◌<◌}
use native.Mathlib.Nat.{mod-lt, mod-add-div', zero-mod, mul_assoc, mul_comm}
use native.Mathlib.Omega.{arith}
use lib.Dec.{T, eqb, eqb→eq, eqb_refl}
use Rattle.arith.proofs.Cases.{eqb_case}
use Rattle.arith.proofs.Cong.{Cong, cong_intro, cong_of_eq, cong_trans, cong_sym, cong_refl, cong_add, cong_mul, cong_mod, cong_cancel, factor_pos}
use Rattle.arith.specs.Residues.{neg}
use Rattle.arith.proofs.Ring.{ring₁, quote}
use Rattle.arith.proofs.Remainders.{mod_of}
use Rattle.arith.proofs.Divides.{Dvd, dvd_zero, dvd_pos, dvd_mul_l, dvd_resp, dvd_rest, dvd_cong, cong_dvd, dvd_unscale, dvd_as}
use Rattle.arith.specs.Gcd.{gcd}
use Rattle.arith.proofs.Gcd.{gcd_left, gcd_right, bezout}
use Rattle.arith.proofs.First.{first_unique}
use Rattle.arith.proofs.Units.{FirstUnder, first_below_law, first_zero, first_none}
use Rattle.arith.specs.Units.{divides, quotient}

-- ---- where gcd(a, d) divides b
quotient_exists : (d a b u q g : ℕ) → Cong d (u * a) g → b ≡ g * q → Cong d (u * q % d * a) b
quotient_exists d a b u q g h e =
    cong_trans (cong_mul (cong_mod (u * q)) (cong_refl a))
    (cong_trans (cong_of_eq (swap u q a)) (cong_trans (cong_mul h (cong_refl q)) (cong_of_eq (sym e))))
  where
    swap : (u q a : ℕ) → u * q * a ≡ u * a * q
    swap u q a = omega arith

module _ (d a b : ℕ) (pos : 0 < d) where
  pub quotient_found : Dvd (gcd a d) b → FirstUnder (λ c. eqb (c * a % d) (b % d)) d (quotient d a b)
  unfolding quotient
  quotient_found h =
      let z = bezout a d pos in
      let c = z.u * h.q % d in
      first_below_law (λ c. eqb (c * a % d) (b % d)) d c (mod-lt (z.u * h.q) pos)
      (subst (λ (x : ℕ). T (eqb x (b % d))) (sym (quotient_exists d a b z.u h.q (gcd a d) z.eq h.eq).same) (eqb_refl (b % d)))

  pub quotient_below : Dvd (gcd a d) b → quotient d a b < d
  quotient_below h = (quotient_found h).below

  -- the quotient times a is b
  pub quotient_times : Dvd (gcd a d) b → Cong d (quotient d a b * a) b
  quotient_times h = record { same = eqb→eq (quotient d a b * a % d) (b % d) (quotient_found h).first.passes }

  -- the quotient of 0 is 0
  pub quotient_zero : b ≡ 0 → quotient d a b ≡ 0
  unfolding quotient
  quotient_zero e = first_zero (λ c. eqb (c * a % d) (b % d)) d pos (subst (λ (x : ℕ). T (eqb (0 * a % d) x)) (ap (λ (x : ℕ). x % d) (sym (e ∙ none))) (eqb_refl (0 * a % d)))
    where
      none : 0 ≡ 0 * a
      none = omega arith

-- ---- what the test says
-- w that leaves no remainder
pub rem_dvd : (g w : ℕ) → w % g ≡ 0 → Dvd g w
rem_dvd g w e = cong_dvd (record { same = e ∙ sym (zero-mod g) })

pub divides_dvd : (d a b : ℕ) → divides d a b ≡ true → Dvd (gcd a d) b
unfolding divides
divides_dvd d a b e = rem_dvd (gcd a d) b (eqb→eq (b % gcd a d) 0 (subst T (sym e) tt))

pub dvd_divides : (d a b : ℕ) → Dvd (gcd a d) b → divides d a b ≡ true
unfolding divides
dvd_divides d a b h = eqb_case (λ (t : Bool). t ≡ true) (b % gcd a d) 0 (λ e. refl) (λ ne. absurd (ne ((dvd_cong h).same ∙ zero-mod (gcd a d))))

-- a c with c·a = b is there only where gcd(a, d) divides b
quotient_only_dvd : (d a b c : ℕ) → Cong d (c * a) b → Dvd (gcd a d) b
quotient_only_dvd d a b c h = dvd_resp (gcd_right a d) h (dvd_mul_l c (gcd_left a d))

pub quotient_none : (d a b : ℕ) → 0 < d → divides d a b ≡ false → quotient d a b ≡ d
unfolding quotient
quotient_none d a b p e = first_none (λ c. eqb (c * a % d) (b % d)) d
    (λ c l t. subst (λ (x : Bool). T (not x)) (dvd_divides d a b (quotient_only_dvd d a b c (record { same = eqb→eq (c * a % d) (b % d) t }))) (subst (λ (x : Bool). T (not x)) (sym e) tt))

-- ---- by Euclid's algorithm: with g = gcd(a, d), d = g·e, b = g·q and any u with u·a = g modulo d, the quotient is q·u modulo e
-- a multiple of e below e is 0
small_dvd : (e x : ℕ) → Dvd e x → x < e → x ≡ 0
small_dvd e x h l = go h.q h.eq
  where
    go : (r : ℕ) → x ≡ e * r → x ≡ 0
    go zero f = omega arith
    go (suc r) f = absurd (omega arith)

module _ (d a b g e f q u : ℕ) (pos : 0 < d) (de : d ≡ g * e) (af : a ≡ g * f) (bq : b ≡ g * q) (h : Cong d (u * a) g) where
  -- q·u modulo e is a quotient
  euclid_times : Cong d (q * u % e * a) b
  euclid_times = cong_trans (cong_intro (q * u / e * f) 0 (shift (q * u % e) (q * u / e) (q * u) (mod-add-div' (q * u) e)))
      (cong_trans (cong_of_eq (mul_assoc q u a)) (cong_trans (cong_mul (cong_refl q) h) (cong_of_eq (mul_comm q g ∙ sym bq))))
    where
      shift : (c k x : ℕ) → c + k * e ≡ x → c * a + k * f * d ≡ x * a + 0 * d
      shift c k x z = omega (arith, ap (λ (y : ℕ). y * a) z, ap (λ (y : ℕ). k * f * y) de, ap (λ (y : ℕ). k * e * y) af)

  -- two quotients that differ by less than e are the same
  euclid_only : (i x : ℕ) → Cong d ((i + x) * a) b → Cong d (i * a) b → x < e → x ≡ 0
  euclid_only i x hx hi l = small_dvd e x (dvd_unscale g (factor_pos g e pos de).0 (over (cong_dvd scaled))) l
    where
      over : Dvd d (x * g) → Dvd (g * e) (g * x)
      over z = subst (λ (y : ℕ). Dvd y (g * x)) de (dvd_as (mul_comm x g) z)

      none : Cong d (x * a) 0
      none = cong_cancel {b = 0} (i * a) (cong_trans (cong_of_eq (split i x a)) (cong_trans hx (cong_trans (cong_sym hi) (cong_of_eq (omega arith)))))
        where
          split : (i x a : ℕ) → x * a + i * a ≡ (i + x) * a
          split i x a = omega arith

      scaled : Cong d (x * g) 0
      scaled = cong_trans (cong_mul (cong_refl x) (cong_sym h)) (cong_trans (cong_of_eq (swap x u a)) (cong_trans (cong_mul (cong_refl u) none) (cong_of_eq (omega arith))))
        where
          swap : (x u a : ℕ) → x * (u * a) ≡ u * (x * a)
          swap x u a = omega arith

differ : (x y : ℕ) → (x ≡ y → ⊥) → T (not (eqb x y))
differ x y f = eqb_case (λ (b : Bool). T (not b)) x y (λ e. absurd (f e)) (λ ne. tt)

pub quotient_euclid : (d a b e q u : ℕ) → 0 < d → d ≡ gcd a d * e → b ≡ gcd a d * q → Cong d (u * a) (gcd a d) → quotient d a b ≡ q * u % e
quotient_euclid d a b e q u pos de bq h = first_unique (quotient_found d a b pos (record { q = q; eq = bq })).first (record {
  passes = subst (λ (x : ℕ). T (eqb x (b % d))) (sym times.same) (eqb_refl (b % d));
  none_before = λ i l. differ (i * a % d) (b % d) (λ z. absurd (apart i l z));
})
  where
    times : Cong d (q * u % e * a) b
    times = euclid_times d a b (gcd a d) e (gcd_left a d).q q u pos de (gcd_left a d).eq bq h

    apart : (i : ℕ) → i < q * u % e → i * a % d ≡ b % d → ⊥
    apart i l z =
        let c = q * u % e in
        let m : c < e = mod-lt (q * u) (factor_pos (gcd a d) e pos de).1 in
        let back : i + (c - i) ≡ c = omega arith in
        let y = euclid_only d a b (gcd a d) e (gcd_left a d).q q u pos de (gcd_left a d).eq bq h i (c - i) (subst (λ (y : ℕ). Cong d (y * a) b) (sym back) times) (record { same = z }) (omega arith) in
        omega arith

-- as code computes it, with g and u from Euclid's algorithm
module _ (d a : ℕ) {g : ℕ} (of_g : g ≡ gcd a d) (pos : 0 < d) where
  pub divisor_pos : 0 < g
  divisor_pos = rw of_g (dvd_pos pos (gcd_right a d))

  part : (x : ℕ) → x % g ≡ 0 → x ≡ gcd a d * (x / g)
  part x e = omega (arith, mod-add-div' x g) ∙ ap (λ (y : ℕ). y * (x / g)) of_g

  whole : d ≡ gcd a d * (d / g)
  whole = part d (rw of_g ((dvd_cong (gcd_right a d)).same ∙ zero-mod (gcd a d)))

  pub modulus_pos : 0 < d / g
  modulus_pos = (factor_pos (gcd a d) (d / g) pos whole).1

  pub quotient_computed : (b u : ℕ) → b % g ≡ 0 → u * a % d ≡ gcd a d % d → b / g * u % (d / g) ≡ quotient d a b
  quotient_computed b u e h = sym (quotient_euclid d a b (d / g) (b / g) u pos whole (part b e) (record { same = h }))

  pub quotient_missing : (b : ℕ) → b % g ≢ 0 → d ≡ quotient d a b
  unfolding divides
  quotient_missing b ne = sym (quotient_none d a b pos (eqb_case (λ (t : Bool). t ≡ false) (b % gcd a d) 0 (λ e. absurd (ne (ap (λ (y : ℕ). b % y) of_g ∙ e))) (λ o. refl)))

-- ---- negatives
pub minus_sum : (d w : ℕ) → 0 < d → Cong d (w + neg d w % d) 0
minus_sum d w p = ring₁ d (w ∷ []) p (search quote depth 30) (search quote depth 30) tt

-- what divides d and one of w and −w divides the other
pub dvd_minus : (d w g : ℕ) → 0 < d → Dvd g d → Dvd g w → Dvd g (neg d w % d)
dvd_minus d w g p gd h = dvd_rest w (neg d w % d) (dvd_resp gd (cong_sym (minus_sum d w p)) (dvd_zero g)) h

pub minus_dvd : (d w g : ℕ) → 0 < d → Dvd g d → Dvd g (neg d w % d) → Dvd g w
minus_dvd d w g p gd h = dvd_rest (neg d w % d) w (dvd_resp gd (cong_sym (cong_trans (cong_of_eq swap) (minus_sum d w p))) (dvd_zero g)) h
  where
    swap : neg d w % d + w ≡ w + neg d w % d
    swap = omega arith

-- k·v ≡ −w makes w + k·v 0
pub level_zero : (d w k v : ℕ) → 0 < d → Cong d (k * v) (neg d w % d) → (w + k * v) % d ≡ 0
level_zero d w k v p h = mod_of (w + k * v) (cong_trans (cong_add (cong_refl w) h) (minus_sum d w p)) p

-- whether there is a quotient of −b tells whether b is a multiple of a
module _ (d a b : ℕ) (pos : 0 < d) where
  pub quotient_tells : quotient d a (neg d b % d) < d → divides d a b ≡ true
  quotient_tells l = go (divides d a (neg d b % d)) refl
    where
      go : (x : Bool) → divides d a (neg d b % d) ≡ x → divides d a b ≡ true
      go true e = dvd_divides d a b (minus_dvd d b (gcd a d) pos (gcd_right a d) (divides_dvd d a (neg d b % d) e))
      go false e = absurd (omega (arith, quotient_none d a (neg d b % d) pos e))

  pub quotient_tells_none : d ≤ quotient d a (neg d b % d) → divides d a b ≡ false
  quotient_tells_none l = go (divides d a b) refl
    where
      go : (x : Bool) → divides d a b ≡ x → x ≡ false
      go true e = absurd (omega (arith, quotient_below d a (neg d b % d) pos (dvd_minus d b (gcd a d) pos (gcd_right a d) (divides_dvd d a b e))))
      go false e = refl
