-- What specs/Units.antt computes: the first number below a bound, the inverse of a unit, the least multiplier.
use mathlib.Core.Path.{◌≡◌, refl, sym, ◌∙◌, ap, ap₂, subst}
use mathlib.Core.Bool.{Bool, true, false, not, cond}
use mathlib.Core.Logic.{◌≢◌}
use Prim.Native.Nat.{ℕ, zero, suc, ◌+◌, ◌*◌, ◌-◌, ◌%◌, ◌≤◌, ◌<◌}
use native.Mathlib.Nat.{mul_comm, mul-one, mod-eq_of_lt, mod_self}
use native.Mathlib.Omega.{arith}
use lib.Dec.{T, T_not, eqb, eqb→eq, eqb_refl}
use borrow.Author.Tests.{eq-eqb}
use Rattle.arith.proofs.Cases.{by_eq, by_less}
use Rattle.arith.proofs.Cong.{Cong, cong_eq, cong_trans, cong_of_eq, cong_refl, cong_sym, cong_add, cong_mul, cong_mod, cong_intro}
use Rattle.arith.proofs.Divides.{dvd_refl, dvd_zero, dvd_one, dvd_mul_l, dvd_resp}
use Rattle.arith.proofs.Remainders.{mod_of}
use Rattle.arith.specs.Gcd.{gcd}
use Rattle.arith.proofs.Gcd.{gcd_left, gcd_right, gcd_unique, gcd_cong, both_cong, inverse, gcd_zero_left, inverse_unique}
use Rattle.arith.proofs.Candidates.{candidate_zero, candidate_once, first_nearest, nearest_unique}
use Rattle.arith.proofs.Multiplier.{multiplier}
use Rattle.arith.proofs.First.{First, first_unique, told_true}
use Rattle.arith.specs.Units.{fits, first_from, first_below, inverse_of, candidate, least_multiplier, Nearest}

-- m is the first number that passes, and is below the bound
pub record FirstUnder (test : ℕ → Bool) (bound m : ℕ) : Type 0 where
  pub first : First test m
  pub below : m < bound

-- m is the first number from k on that passes, and is below the bound
pub record FirstFrom (test : ℕ → Bool) (k bound m : ℕ) : Type 0 where
  pub passes : T (test m)
  pub from : k ≤ m
  pub below : m < bound
  pub none_before : (i : ℕ) → k ≤ i → i < m → T (not (test i))

-- the search from k on, where some j that it looks at passes
pub first_from_law : (test : ℕ → Bool) (n k j : ℕ) → k ≤ j → j < k + n → T (test j) → FirstFrom test k (k + n) (first_from test n k)
first_from_law test zero k j g l t = absurd (omega arith)
first_from_law test (suc n) k j g l t = go (test k) refl (λ f. first_from_law test n (suc k) j f (omega arith) t)
  where
    go : (b : Bool) → test k ≡ b → (suc k ≤ j → FirstFrom test (suc k) (suc k + n) (first_from test n (suc k))) → FirstFrom test k (k + suc n) (cond b k (first_from test n (suc k)))
    go true e rec = record { passes = subst T (sym e) tt; from = omega arith; below = omega arith; none_before = λ i a b. absurd (omega arith) }
    go false e rec = record { passes = r.passes; from = omega (arith, r.from); below = omega (arith, r.below); none_before = λ i a b. by_eq i k (λ q. rw q fails) (λ ne. r.none_before i (omega arith) b) }
      where
        fails : T (not (test k))
        fails = subst (λ (b : Bool). T (not b)) (sym e) tt

        r : FirstFrom test (suc k) (suc k + n) (first_from test n (suc k))
        r = rec (by_eq j k (λ q. absurd (T_not (test k) fails (rw q at t))) (λ ne. omega arith))

pub first_below_law : (test : ℕ → Bool) (bound j : ℕ) → j < bound → T (test j) → FirstUnder test bound (first_below test bound)
unfolding first_below
first_below_law test bound j l t =
    let r = first_from_law test bound 0 j (omega arith) (omega arith) t in
    record { first = record { passes = r.passes; none_before = λ i h. r.none_before i (omega arith) h }; below = omega (arith, r.below) }

-- where 0 passes, it is the first
pub first_zero : (test : ℕ → Bool) (bound : ℕ) → 0 < bound → T (test 0) → first_below test bound ≡ 0
first_zero test bound p t = first_unique (first_below_law test bound 0 p t).first (record { passes = t; none_before = λ i l. absurd (omega arith) })

-- a search never goes past its bound, and ends below it only at a number that passes
at_most_from : (test : ℕ → Bool) (n k : ℕ) → first_from test n k ≤ k + n
at_most_from test zero k = omega arith
at_most_from test (suc n) k = go (test k) (at_most_from test n (suc k))
  where
    go : (b : Bool) → first_from test n (suc k) ≤ suc k + n → cond b k (first_from test n (suc k)) ≤ k + suc n
    go true rec = omega arith
    go false rec = omega arith

found_from : (test : ℕ → Bool) (n k : ℕ) → first_from test n k < k + n → T (test (first_from test n k))
found_from test zero k l = absurd (omega arith)
found_from test (suc n) k l = go (test k) refl l (λ m. found_from test n (suc k) m)
  where
    go : (b : Bool) → test k ≡ b → cond b k (first_from test n (suc k)) < k + suc n → (first_from test n (suc k) < suc k + n → T (test (first_from test n (suc k))))
        → T (test (cond b k (first_from test n (suc k))))
    go true e l rec = subst T (sym e) tt
    go false e l rec = rec (omega arith)

pub first_most : (test : ℕ → Bool) (bound : ℕ) → first_below test bound ≤ bound
unfolding first_below
first_most test bound = omega (arith, at_most_from test bound 0)

pub first_passes : (test : ℕ → Bool) (bound : ℕ) → first_below test bound < bound → T (test (first_below test bound))
unfolding first_below
first_passes test bound l = found_from test bound 0 (omega arith)

-- where no number below the bound passes, it is the bound
pub first_none : (test : ℕ → Bool) (bound : ℕ) → ((j : ℕ) → j < bound → T (test j) → ⊥) → first_below test bound ≡ bound
first_none test bound h = by_less (first_below test bound) bound
    (λ l. absurd (h (first_below test bound) l (first_passes test bound l)))
    (λ l. omega (arith, first_most test bound))

-- ---- the inverse of a unit
module _ (d q : ℕ) (large : 1 < d) (unit : gcd q d ≡ 1) where
  inverse_found : FirstUnder (λ x. eqb (q * x % d) 1) d (inverse_of d q)
  unfolding inverse_of
  inverse_found =
      let z = inverse d q (omega arith) unit in
      let e : q * z.inv % d ≡ 1 = ap (λ (x : ℕ). x % d) (mul_comm q z.inv) ∙ z.eq.same ∙ mod-eq_of_lt large in
      first_below_law (λ x. eqb (q * x % d) 1) d z.inv z.below (subst (λ (x : ℕ). T (eqb x 1)) (sym e) (eqb_refl 1))

  pub inverse_below : inverse_of d q < d
  inverse_below = inverse_found.below

  pub inverse_times : Cong d (q * inverse_of d q) 1
  inverse_times = record { same = eqb→eq (q * inverse_of d q % d) 1 inverse_found.first.passes ∙ sym (mod-eq_of_lt large) }

  pub scaled_one : inverse_of d q * q % d ≡ 1
  scaled_one = mod_of (inverse_of d q * q) (cong_trans (cong_of_eq (mul_comm (inverse_of d q) q)) inverse_times) large

-- a unit is positive
pub unit_pos : (d k : ℕ) → 1 < d → gcd k d ≡ 1 → 0 < k
unit_pos d zero large e = absurd (omega (arith, gcd_zero_left d))
unit_pos d (suc k) large e = omega arith

module _ (d q : ℕ) (large : 1 < d) (unit : gcd q d ≡ 1) where
  pub inverse_unit : gcd (inverse_of d q) d ≡ 1
  inverse_unit = dvd_one (dvd_resp (gcd_right (inverse_of d q) d) (inverse_times d q large unit) (dvd_mul_l q (gcd_left (inverse_of d q) d)))

  pub inverse_pos : 0 < inverse_of d q
  inverse_pos = unit_pos d (inverse_of d q) large inverse_unit

  -- the only one below d
  pub inverse_only : (u : ℕ) → u < d → Cong d (q * u) 1 → u ≡ inverse_of d q
  inverse_only u l h = cong_eq (inverse_unique q (omega arith) (cong_trans (cong_of_eq (mul_comm u q)) h) (cong_trans (cong_of_eq (mul_comm (inverse_of d q) q)) (inverse_times d q large unit))) l (inverse_below d q large unit)

pub inverse_one : (d v : ℕ) → 1 < d → v ≡ 1 → inverse_of d v ≡ 1
inverse_one d v l e = ap (inverse_of d) e ∙ sym (inverse_only d 1 l (dvd_one (gcd_left 1 d)) 1 l (cong_of_eq (omega arith)))

-- the inverse of an inverse that isn't 1 isn't 1, for any v, unit or not
pub inverse_twice : (d v : ℕ) → 1 < d → inverse_of d v ≢ 1 → inverse_of d (inverse_of d v) ≢ 1
unfolding inverse_of
inverse_twice d v l ne e =
    let x = inverse_of d v in
    let hit : x * inverse_of d x % d ≡ 1 = eqb→eq (x * inverse_of d x % d) 1 (first_passes (λ y. eqb (x * y % d) 1) d (omega arith)) in
    let one : x % d ≡ 1 = ap (λ (y : ℕ). y % d) (sym (mul-one x) ∙ ap (λ (y : ℕ). x * y) (sym e)) ∙ hit in
    by_less x d
    (λ m. ne (sym (mod-eq_of_lt m) ∙ one))
    (λ m. full x one (omega (arith, first_most (λ y. eqb (v * y % d) 1) d)))
  where
    full : (x : ℕ) → x % d ≡ 1 → x ≡ d → ⊥
    full x f g = let z : d % d ≡ 1 = ap (λ (y : ℕ). y % d) (sym g) ∙ f in omega (arith, mod_self d)

-- ---- the least multiplier
-- whether the candidate at each place fits
abbrev pub fits_at : ℕ → ℕ → ℕ → ℕ → Bool
fits_at d a b k = fits a b d (candidate d k)

module _ (d a b : ℕ) (pos : 0 < d) where
  -- some candidate fits, since some residue does; the first has its place below d
  pub place_found : FirstUnder (fits_at d a b) d (first_below (fits_at d a b) d)
  place_found =
      let z = multiplier a b d pos in
      let c = (candidate_once d z.m z.below).hit in
      first_below_law (fits_at d a b) d c.at c.below (subst (λ (m : ℕ). T (fits a b d m)) (sym c.hits) (subst (λ (x : ℕ). T (eqb x (gcd (gcd a b) d))) (sym z.eq) (eqb_refl (gcd (gcd a b) d))))

  -- it fits, is below d and the nearest to zero that does; of two as near it is the positive one if that fits
  pub least_nearest : Nearest (fits a b d) d (least_multiplier d a b)
  unfolding least_multiplier
  least_nearest = first_nearest (fits a b d) d (first_below (fits_at d a b) d) place_found.below place_found.first

  pub least_below : least_multiplier d a b < d
  least_below = least_nearest.below

  pub least_gcd : gcd (a + least_multiplier d a b * b) d ≡ gcd (gcd a b) d
  least_gcd = eqb→eq (gcd (a + least_multiplier d a b * b) d) (gcd (gcd a b) d) least_nearest.passes

  -- no other residue is so
  pub least_only : (m : ℕ) → Nearest (fits a b d) d m → m ≡ least_multiplier d a b
  least_only m h = nearest_unique h least_nearest

  -- the first candidate that fits is this one
  pub least_at : (k : ℕ) → First (fits_at d a b) k → candidate d k ≡ least_multiplier d a b
  unfolding least_multiplier
  least_at k f = ap (candidate d) (first_unique f place_found.first)

  -- what the loop of a program needs: while none of the first k candidates fits, k is below d
  pub still_below : (k : ℕ) → ((j : ℕ) → j < k → T (not (fits_at d a b j))) → k < d
  still_below k h = omega (arith, past, place_found.below)
    where
      past : ¬ (first_below (fits_at d a b) d < k)
      past l = T_not (fits_at d a b (first_below (fits_at d a b) d)) (h (first_below (fits_at d a b) d) l) place_found.first.passes

-- whether 0 fits
pub zero_fits : (d a b : ℕ) → eqb (gcd a d) (gcd (gcd a b) d) ≡ fits_at d a b 0
zero_fits d a b = let z : a ≡ a + 0 * b = omega arith in ap (λ (x : ℕ). eqb (gcd x d) (gcd (gcd a b) d)) z ∙ ap (fits a b d) (sym (candidate_zero d))

-- where 0 fits, it is 0; so where b is 0
pub least_fits_zero : (d a b : ℕ) → 0 < d → gcd a d ≡ gcd (gcd a b) d → least_multiplier d a b ≡ 0
least_fits_zero d a b p e = sym (least_at d a b p 0 (record { passes = told_true (zero_fits d a b) (eq-eqb _ _ e); none_before = λ j l. absurd (omega arith) })) ∙ candidate_zero d

pub least_zero : (d a b : ℕ) → 0 < d → b ≡ 0 → least_multiplier d a b ≡ 0
least_zero d a b p e = least_fits_zero d a b p (sym (ap (λ (x : ℕ). gcd x d) same))
  where
    same : gcd a b ≡ a
    same = ap (gcd a) e ∙ gcd_unique (dvd_refl a) (dvd_zero a) (λ c h k. h)

-- ---- the search for the least multiplier
-- a and b may be brought below d: the sums are the same modulo d, so the same numbers fit
pub sum_reduced : (d a b m : ℕ) → Cong d (a % d + m * (b % d)) (a + m * b)
sum_reduced d a b m = cong_add (cong_mod a) (cong_mul (cong_refl m) (cong_mod b))

fits_reduced : (d a b m : ℕ) → fits (a % d) (b % d) d m ≡ fits a b d m
fits_reduced d a b m = ap₂ eqb (gcd_cong (sum_reduced d a b m)) (both_cong (cong_mod a) (cong_mod b))

pub least_reduced : (d a b : ℕ) → 0 < d → least_multiplier d (a % d) (b % d) ≡ least_multiplier d a b
least_reduced d a b p =
    let h = least_nearest d (a % d) (b % d) p in
    least_only d a b p (least_multiplier d (a % d) (b % d)) (record {
      passes = subst T (fits_reduced d a b (least_multiplier d (a % d) (b % d))) h.passes;
      below = h.below;
      nearest = λ r l t. h.nearest r l (subst T (sym (fits_reduced d a b r)) t);
      positive = λ r l t e. h.positive r l (subst T (sym (fits_reduced d a b r)) t) e;
    })

-- a + m·b is kept modulo d: what is below d and congruent to the number kept with b added is the one for the next m
pub kept_next : (d a b m x r : ℕ) → x ≡ (a + m * b) % d → Cong d r (x + b) → r < d → r ≡ (a + (m + 1) * b) % d
kept_next d a b m x r e h l = sym (mod_of (a + (m + 1) * b) (cong_sym (cong_trans h (rw e (cong_trans (cong_add (cong_mod (a + m * b)) (cong_refl b)) (cong_of_eq (omega arith)))))) l)

-- a − m·b is kept by the same step, with d − b for b: what it keeps for m is the sum for −m, written d − m
pub sum_down : (d a b m : ℕ) → b ≤ d → m ≤ d → Cong d (a + m * (d - b)) (a + (d - m) * b)
sum_down d a b m l k = over (d - b) (d - m) (omega arith) (omega arith)
  where
    over : (e f : ℕ) → b + e ≡ d → m + f ≡ d → Cong d (a + m * e) (a + f * b)
    over e f x y = cong_intro b m (omega (arith, ap (λ (z : ℕ). b * z) (sym y), ap (λ (z : ℕ). m * z) (sym x)))
