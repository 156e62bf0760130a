-- Dot products: with sums and multiples, with one place set, and with a list that is zero but at one place.
use mathlib.Core.Path.{◌≡◌, refl, sym, ◌∙◌, ap}
use mathlib.Core.List.{List, [], ◌∷◌}
use mathlib.Core.Logic.{◌≢◌}
use Prim.Native.Nat.{ℕ, zero, suc, ◌+◌, ◌*◌, ◌%◌, ◌<◌}
use native.Mathlib.Nat.{not-suc-le-zero, le_of_suc-le-suc, mul_comm, mul-zero, suc_inj, suc-ne-zero}
use native.Mathlib.Omega.{arith}
use lib.ListN.{length, get_or, set, replicate, length-set}
use lib.Seq.{get_or-set_other}
use Rattle.arith.proofs.Cong.{Cong, cong_refl, cong_of_eq}
use Rattle.arith.proofs.Ring.{ring₁_by, times, quote}
use Rattle.arith.proofs.Divides.{Dvd, dvd_zero, dvd_add, dvd_mul_r}
use Rattle.pauli.specs.Pauli.{dot, plus}
use Rattle.pauli.specs.Effects.{exchanged}
use Rattle.pauli.proofs.Lists.{get_d_zeros, single_same, single_other}
use Rattle.pauli.proofs.Sums.{scaled}

pub dot_comm : (xs ys : List ℕ) → dot xs ys ≡ dot ys xs
dot_comm [] [] = refl
dot_comm [] (y ∷ ys) = refl
dot_comm (x ∷ xs) [] = refl
dot_comm (x ∷ xs) (y ∷ ys) = omega (arith, dot_comm xs ys)

-- what divides every entry of the first list divides the dot
pub dvd_dot : {c : ℕ} (xs ys : List ℕ) → ((i : ℕ) → Dvd c (get_or xs i 0)) → Dvd c (dot xs ys)
dvd_dot {c} [] ys h = dvd_zero c
dvd_dot {c} (x ∷ xs) [] h = dvd_zero c
dvd_dot (x ∷ xs) (y ∷ ys) h = dvd_add (dvd_mul_r y (h 0)) (dvd_dot xs ys (λ i. h (suc i)))

-- ---- sums and multiples
plus_step : (d x y z a b c : ℕ) → 0 < d → Cong d c (a + b) → Cong d ((x + y) % d * z + c) (x * z + a + (y * z + b))
plus_step d x y z a b c p h = ring₁_by d (x ∷ y ∷ z ∷ a ∷ b ∷ c ∷ []) p (times {z = 1} (search quote) (search quote) (search quote) h) (search quote depth 30) (search quote depth 30) tt

pub dot_plus_l : (d : ℕ) → 0 < d → (xs ys zs : List ℕ) → length xs ≡ length ys → Cong d (dot (plus d xs ys) zs) (dot xs zs + dot ys zs)
dot_plus_l d p [] [] zs e = cong_refl 0
dot_plus_l d p [] (y ∷ ys) zs e = absurd (omega arith)
dot_plus_l d p (x ∷ xs) [] zs e = absurd (omega arith)
dot_plus_l d p (x ∷ xs) (y ∷ ys) [] e = cong_refl 0
dot_plus_l d p (x ∷ xs) (y ∷ ys) (z ∷ zs) e = plus_step d x y z (dot xs zs) (dot ys zs) (dot (plus d xs ys) zs) p (dot_plus_l d p xs ys zs (omega arith))

pub dot_plus_r : (d : ℕ) → 0 < d → (xs ys zs : List ℕ) → length ys ≡ length zs → Cong d (dot xs (plus d ys zs)) (dot xs ys + dot xs zs)
dot_plus_r d p xs ys zs e = rw (dot_comm xs (plus d ys zs), dot_comm xs ys, dot_comm xs zs) (dot_plus_l d p ys zs xs e)

scaled_step : (d k x y a b : ℕ) → 0 < d → Cong d b (k * a) → Cong d (k * x % d * y + b) (k * (x * y + a))
scaled_step d k x y a b p h = ring₁_by d (k ∷ x ∷ y ∷ a ∷ b ∷ []) p (times {z = 1} (search quote) (search quote) (search quote) h) (search quote depth 30) (search quote depth 30) tt

pub dot_scaled : (d k : ℕ) → 0 < d → (xs ys : List ℕ) → Cong d (dot (scaled d k xs) ys) (k * dot xs ys)
dot_scaled d k p [] ys = cong_of_eq (omega arith)
dot_scaled d k p (x ∷ xs) [] = cong_of_eq (omega arith)
dot_scaled d k p (x ∷ xs) (y ∷ ys) = scaled_step d k x y (dot xs ys) (dot (scaled d k xs) ys) p (dot_scaled d k p xs ys)

-- ---- both lists set at one place, or only the first, or the first at i and the second at j
pub dot_set : (xs ys : List ℕ) (i a b : ℕ) → i < length xs → i < length ys → dot (set xs i a) (set ys i b) + get_or xs i 0 * get_or ys i 0 ≡ dot xs ys + a * b
dot_set [] ys i a b h k = absurd (not-suc-le-zero h)
dot_set (x ∷ xs) [] i a b h k = absurd (not-suc-le-zero k)
dot_set (x ∷ xs) (y ∷ ys) zero a b h k = omega arith
dot_set (x ∷ xs) (y ∷ ys) (suc i) a b h k = omega (arith, dot_set xs ys i a b (le_of_suc-le-suc h) (le_of_suc-le-suc k))

pub dot_set_l : (xs ys : List ℕ) (i a : ℕ) → i < length xs → dot (set xs i a) ys + get_or xs i 0 * get_or ys i 0 ≡ dot xs ys + a * get_or ys i 0
dot_set_l [] ys i a h = absurd (not-suc-le-zero h)
dot_set_l (x ∷ xs) [] zero a h = omega arith
dot_set_l (x ∷ xs) [] (suc i) a h = omega arith
dot_set_l (x ∷ xs) (y ∷ ys) zero a h = omega arith
dot_set_l (x ∷ xs) (y ∷ ys) (suc i) a h = omega (arith, dot_set_l xs ys i a (le_of_suc-le-suc h))

dot_set_r : (xs ys : List ℕ) (i b : ℕ) → i < length ys → dot xs (set ys i b) + get_or xs i 0 * get_or ys i 0 ≡ dot xs ys + get_or xs i 0 * b
dot_set_r xs ys i b h = omega (arith, dot_comm xs (set ys i b), dot_comm xs ys, dot_set_l ys xs i b h)

pub dot_set_apart : (xs ys : List ℕ) (i j a b : ℕ) → i < length xs → j < length ys → i ≢ j
    → dot (set xs i a) (set ys j b) + (get_or xs i 0 * get_or ys i 0 + get_or xs j 0 * get_or ys j 0) ≡ dot xs ys + (a * get_or ys i 0 + get_or xs j 0 * b)
dot_set_apart xs ys i j a b h k ne = omega (arith, rw (get_or-set_other ys j i b 0 ne) at (dot_set_l xs (set ys j b) i a h), dot_set_r xs ys j b k)

-- the first list set at i and j, and both lists with the entries i and j exchanged
pub dot_set_two : (xs ys : List ℕ) (i j a b : ℕ) → i < length xs → j < length xs → i ≢ j
    → dot (set (set xs i a) j b) ys + (get_or xs i 0 * get_or ys i 0 + get_or xs j 0 * get_or ys j 0) ≡ dot xs ys + (a * get_or ys i 0 + b * get_or ys j 0)
dot_set_two xs ys i j a b h k ne =
    omega (arith, rw (get_or-set_other xs i j a 0 (λ e. ne (sym e))) at (dot_set_l (set xs i a) ys j b (rw length-set k)), dot_set_l xs ys i a h)

pub dot_exchanged : (xs ys : List ℕ) (i j : ℕ) → i < length xs → i < length ys → j < length xs → j < length ys → i ≢ j → dot (exchanged i j xs) (exchanged i j ys) ≡ dot xs ys
dot_exchanged xs ys i j hx hy kx ky ne =
    let other : j ≢ i = λ e. ne (sym e) in
    omega (
      arith,
      rw (get_or-set_other xs i j (get_or xs j 0) 0 other, get_or-set_other ys i j (get_or ys j 0) 0 other) at (dot_set (set xs i (get_or xs j 0)) (set ys i (get_or ys j 0)) j (get_or xs i 0) (get_or ys i 0) (rw length-set kx) (rw length-set ky)),
      dot_set xs ys i (get_or xs j 0) (get_or ys j 0) hx hy,
    )

-- ---- with a list of zeros, and with a list that is zero but at k
dot_none : (xs ys : List ℕ) → ((i : ℕ) → get_or ys i 0 ≡ 0) → dot xs ys ≡ 0
dot_none [] ys h = refl
dot_none (x ∷ xs) [] h = refl
dot_none (x ∷ xs) (y ∷ ys) h = omega (arith, dot_none xs ys (λ i. h (suc i)), ap (λ (z : ℕ). x * z) (h 0))

pub dot_at : (xs ys : List ℕ) (k : ℕ) → ((i : ℕ) → i ≢ k → get_or ys i 0 ≡ 0) → dot xs ys ≡ get_or xs k 0 * get_or ys k 0
dot_at [] ys k h = omega arith
dot_at (x ∷ xs) [] k h = omega (arith, mul-zero (get_or (x ∷ xs) k 0))
dot_at (x ∷ xs) (y ∷ ys) zero h = omega (arith, dot_none xs ys (λ i. h (suc i) (λ e. suc-ne-zero i e)))
dot_at (x ∷ xs) (y ∷ ys) (suc k) h =
    omega (arith, dot_at xs ys k (λ i ne. h (suc i) (λ e. ne (suc_inj e))), ap (λ (z : ℕ). x * z) (h 0 (λ e. suc-ne-zero k (sym e))))

pub dot_zero_r : (n : ℕ) (xs : List ℕ) → dot xs (replicate n 0) ≡ 0
dot_zero_r n xs = dot_none xs (replicate n 0) (get_d_zeros n)

pub dot_zero_l : (n : ℕ) (ys : List ℕ) → dot (replicate n 0) ys ≡ 0
dot_zero_l n ys = dot_comm (replicate n 0) ys ∙ dot_zero_r n ys

pub dot_single_r : (n i a : ℕ) (xs : List ℕ) → i < n → dot xs (set (replicate n 0) i a) ≡ a * get_or xs i 0
dot_single_r n i a xs h =
    dot_at xs (set (replicate n 0) i a) i (single_other n i a)
    ∙ ap (λ (z : ℕ). get_or xs i 0 * z) (single_same n i a h)
    ∙ mul_comm (get_or xs i 0) a

pub dot_single_l : (n i a : ℕ) (ys : List ℕ) → i < n → dot (set (replicate n 0) i a) ys ≡ a * get_or ys i 0
dot_single_l n i a ys h = dot_comm (set (replicate n 0) i a) ys ∙ dot_single_r n i a ys h
