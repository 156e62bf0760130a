-- Lists of residues: all below d, all zero, zero but at one place, one entry put back, entries set one after the other.
-- (Of a list with an entry set lib.ListN has `length-set`, lib.Seq has `get_or-set_same`, `get_or-set_other`, `set-get_or` and `set-set`.)
use mathlib.Core.Path.{◌≡◌, refl, sym, ◌∙◌, ap}
use mathlib.Core.List.{List, ◌∷◌, ◌++◌}
use mathlib.Core.Logic.{◌≢◌}
use Prim.Native.Nat.{ℕ, zero, suc, ◌+◌, ◌<◌}
use native.Mathlib.Omega.{arith}
use lib.ListN.{length, get_or, take, drop, set, replicate, length-set, length-replicate}
use lib.Seq.{set-get_or, set-set, set_comm, get_or-set_same, get_or-set_other, ext_get_or}
use Rattle.arith.proofs.Cases.{by_eq}
use Rattle.pauli.specs.Pauli.{Below, none, more}

pub cons_path : {x y : ℕ} {xs ys : List ℕ} → x ≡ y → xs ≡ ys → x ∷ xs ≡ y ∷ ys
cons_path a b k = a k ∷ b k

-- ---- all below d
pub get_d_below : {d : ℕ} {xs : List ℕ} (i : ℕ) → 0 < d → Below d xs → get_or xs i 0 < d
get_d_below i h none = h
get_d_below zero h (more k b) = k
get_d_below (suc i) h (more k b) = get_d_below i h b

pub zeros_below : {d : ℕ} → 0 < d → (n : ℕ) → Below d (replicate n 0)
zeros_below p zero = none
zeros_below p (suc n) = more p (zeros_below p n)

pub set_below : {d : ℕ} {xs : List ℕ} (i : ℕ) {a : ℕ} → a < d → Below d xs → Below d (set xs i a)
set_below i l none = none
set_below zero l (more h b) = more l b
set_below (suc i) l (more h b) = more h (set_below i l b)

pub append_below : {d : ℕ} {xs ys : List ℕ} → Below d xs → Below d ys → Below d (xs ++ ys)
append_below none c = c
append_below (more h b) c = more h (append_below b c)

pub take_below : {d : ℕ} {xs : List ℕ} (k : ℕ) → Below d xs → Below d (take k xs)
take_below zero b = none
take_below (suc k) none = none
take_below (suc k) (more h b) = more h (take_below k b)

pub drop_below : {d : ℕ} {xs : List ℕ} (k : ℕ) → Below d xs → Below d (drop k xs)
drop_below zero b = b
drop_below (suc k) none = none
drop_below (suc k) (more h b) = drop_below k b

-- ---- all zero: every entry, the ones past the end too
pub zeros_length : (n : ℕ) → length (replicate {A = ℕ} n 0) ≡ n
zeros_length n = length-replicate {A = ℕ} n 0

pub get_d_zeros : (n i : ℕ) → get_or {A = ℕ} (replicate n 0) i 0 ≡ 0
get_d_zeros zero i = refl
get_d_zeros (suc n) zero = refl
get_d_zeros (suc n) (suc i) = get_d_zeros n i

pub all_zero : (n : ℕ) (xs : List ℕ) → length xs ≡ n → ((i : ℕ) → get_or xs i 0 ≡ 0) → xs ≡ replicate n 0
all_zero n xs e h = ext_get_or 0 xs (replicate n 0) (e ∙ sym (zeros_length n)) (λ i l. h i ∙ sym (get_d_zeros n i))

-- ---- a at place k, and zero elsewhere
pub single_length : (n k a : ℕ) → length (set (replicate {A = ℕ} n 0) k a) ≡ n
single_length n k a = length-set (replicate n 0) k a ∙ zeros_length n

pub single_same : (n k a : ℕ) → k < n → get_or (set (replicate n 0) k a) k 0 ≡ a
single_same n k a l = get_or-set_same (replicate n 0) k a 0 (rw (zeros_length n) l)

pub single_other : (n k a i : ℕ) → i ≢ k → get_or (set (replicate n 0) k a) i 0 ≡ 0
single_other n k a i ne = get_or-set_other (replicate n 0) k i a 0 ne ∙ get_d_zeros n i

pub all_single : (n k a : ℕ) (xs : List ℕ) → k < n → length xs ≡ n → get_or xs k 0 ≡ a → ((i : ℕ) → i ≢ k → get_or xs i 0 ≡ 0) → xs ≡ set (replicate n 0) k a
all_single n k a xs l e f h = ext_get_or 0 xs (set (replicate n 0) k a) (e ∙ sym (single_length n k a)) (λ i m. by_eq i k
    (λ q. ap (λ (y : ℕ). get_or xs y 0) q ∙ f ∙ sym (ap (λ (y : ℕ). get_or (set (replicate n 0) k a) y 0) q ∙ single_same n k a l))
    (λ ne. h i ne ∙ sym (single_other n k a i ne)))

-- ---- an entry put back
pub set_back : (xs : List ℕ) (i : ℕ) {b : ℕ} → b ≡ get_or xs i 0 → set xs i b ≡ xs
set_back xs i e = ap (λ (x : ℕ). set xs i x) e ∙ set-get_or xs i 0

pub set_set_back : (xs : List ℕ) (i a : ℕ) {b : ℕ} → b ≡ get_or xs i 0 → set (set xs i a) i b ≡ xs
set_set_back xs i a {b} e = set-set xs i a b ∙ set_back xs i e

-- ---- two entries set
module _ (l : List ℕ) {i j : ℕ} (x y : ℕ) (apart : i ≢ j) where
  pub stored_first : i < length l → get_or (set (set l i x) j y) i 0 ≡ x
  stored_first h = get_or-set_other (set l i x) j i y 0 apart ∙ get_or-set_same l i x 0 h

  pub stored_second : j < length l → get_or (set (set l i x) j y) j 0 ≡ y
  stored_second h = get_or-set_same (set l i x) j y 0 (omega (arith, length-set l i x))

-- two entries put back, and set once more
pub two_back : (xs : List ℕ) (i j : ℕ) {a b : ℕ} → a ≡ get_or xs i 0 → b ≡ get_or xs j 0 → set (set xs i a) j b ≡ xs
two_back xs i j {b = b} e f = ap (λ (l : List ℕ). set l j b) (set_back xs i e) ∙ set_back xs j f

pub two_again : (xs : List ℕ) {i j : ℕ} (a b x y : ℕ) → i ≢ j → set (set (set (set xs i a) j b) i x) j y ≡ set (set xs i x) j y
two_again xs {i} {j} a b x y apart =
    ap (λ (l : List ℕ). set l j y) (set_comm (set xs i a) j i b x (λ e. apart (sym e)) ∙ ap (λ (l : List ℕ). set l j b) (set-set xs i a x)) ∙ set-set (set xs i x) j b y

-- a loop that sets the places g 0, g 1, .. of a list to f 0, f 1, ..: after place i
pub set_next : (f g : ℕ → ℕ) (l : List ℕ) (i x : ℕ) → ((j : ℕ) → j < i → g j ≢ g i) → g i < length l → x ≡ f i → ((j : ℕ) → j < i → get_or l (g j) 0 ≡ f j) → (j : ℕ) → j < i + 1 → get_or (set l (g i) x) (g j) 0 ≡ f j
set_next f g l i x apart h e before j m = by_eq j i
    (λ q. ap (λ (y : ℕ). get_or (set l (g i) x) (g y) 0) q ∙ get_or-set_same l (g i) x 0 h ∙ e ∙ ap f (sym q))
    (λ ne. let k : j < i = omega arith in get_or-set_other l (g i) (g j) x 0 (apart j k) ∙ before j k)
