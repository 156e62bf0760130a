-- Lists of residues added and multiplied entry by entry, modulo d.
use mathlib.Core.Path.{◌≡◌, refl, sym, ◌∙◌, ap}
use mathlib.Core.List.{List, [], ◌∷◌, ◌++◌}
use Prim.Native.Nat.{ℕ, zero, suc, ◌+◌, ◌*◌, ◌%◌, ◌<◌}
use native.Mathlib.Nat.{mod-lt, mod-eq_of_lt, zero-mod, not-suc-le-zero, le_of_suc-le-suc}
use native.Mathlib.Omega.{arith}
use lib.ListN.{length, get_or, set, replicate}
use lib.Seq.{set-get_or}
use Rattle.arith.proofs.Cong.{Cong, cong_intro}
use Rattle.arith.proofs.Ring.{ring₁, quote}
use Rattle.pauli.specs.Pauli.{Below, none, more, plus}
use Rattle.pauli.proofs.Lists.{cons_path}

-- ---- sums
pub plus_length : (d : ℕ) (xs ys : List ℕ) → length xs ≡ length ys → length (plus d xs ys) ≡ length xs
plus_length d [] ys e = refl
plus_length d (x ∷ xs) [] e = absurd (omega arith)
plus_length d (x ∷ xs) (y ∷ ys) e = ap suc (plus_length d xs ys (omega arith))

pub plus_below : {d : ℕ} → 0 < d → (xs ys : List ℕ) → Below d (plus d xs ys)
plus_below p [] ys = none
plus_below p (x ∷ xs) [] = none
plus_below p (x ∷ xs) (y ∷ ys) = more (mod-lt (x + y) p) (plus_below p xs ys)

pub get_d_plus : (d : ℕ) (xs ys : List ℕ) (i : ℕ) → i < length xs → i < length ys → get_or (plus d xs ys) i 0 ≡ (get_or xs i 0 + get_or ys i 0) % d
get_d_plus d [] ys i h k = absurd (not-suc-le-zero h)
get_d_plus d (x ∷ xs) [] i h k = absurd (not-suc-le-zero k)
get_d_plus d (x ∷ xs) (y ∷ ys) zero h k = refl
get_d_plus d (x ∷ xs) (y ∷ ys) (suc i) h k = get_d_plus d xs ys i (le_of_suc-le-suc h) (le_of_suc-le-suc k)

assoc_entry : (d x y z : ℕ) → 0 < d → Cong d ((x + y) % d + z) (x + (y + z) % d)
assoc_entry d x y z p = ring₁ d (x ∷ y ∷ z ∷ []) p (search quote depth 30) (search quote depth 30) tt

pub plus_assoc : (d : ℕ) → 0 < d → (xs ys zs : List ℕ) → plus d (plus d xs ys) zs ≡ plus d xs (plus d ys zs)
plus_assoc d p [] ys zs = refl
plus_assoc d p (x ∷ xs) [] zs = refl
plus_assoc d p (x ∷ xs) (y ∷ ys) [] = refl
plus_assoc d p (x ∷ xs) (y ∷ ys) (z ∷ zs) = cons_path (assoc_entry d x y z p).same (plus_assoc d p xs ys zs)

pub plus_comm : (d : ℕ) (xs ys : List ℕ) → plus d xs ys ≡ plus d ys xs
plus_comm d [] [] = refl
plus_comm d [] (y ∷ ys) = refl
plus_comm d (x ∷ xs) [] = refl
plus_comm d (x ∷ xs) (y ∷ ys) = cons_path (ap (λ (z : ℕ). z % d) (omega arith)) (plus_comm d xs ys)

pub plus_append : (d : ℕ) (xs xs' ys ys' : List ℕ) → length xs ≡ length ys → plus d (xs ++ xs') (ys ++ ys') ≡ plus d xs ys ++ plus d xs' ys'
plus_append d [] xs' [] ys' e = refl
plus_append d [] xs' (y ∷ ys) ys' e = absurd (omega arith)
plus_append d (x ∷ xs) xs' [] ys' e = absurd (omega arith)
plus_append d (x ∷ xs) xs' (y ∷ ys) ys' e = cons_path refl (plus_append d xs xs' ys ys' (omega arith))

-- with zeros
pub plus_zero_l : (d n : ℕ) (xs : List ℕ) → length xs ≡ n → Below d xs → plus d (replicate n 0) xs ≡ xs
plus_zero_l d zero [] e b = refl
plus_zero_l d (suc n) [] e b = absurd (omega arith)
plus_zero_l d zero (x ∷ xs) e b = absurd (omega arith)
plus_zero_l d (suc n) (x ∷ xs) e (more h b) = cons_path (ap (λ (z : ℕ). z % d) (omega arith) ∙ mod-eq_of_lt h) (plus_zero_l d n xs (omega arith) b)

pub plus_zero_r : (d n : ℕ) (xs : List ℕ) → length xs ≡ n → Below d xs → plus d xs (replicate n 0) ≡ xs
plus_zero_r d n xs e b = plus_comm d xs (replicate n 0) ∙ plus_zero_l d n xs e b

-- both lists set at one place; the second is zero but there
pub plus_set : (d : ℕ) (xs ys : List ℕ) (i a b : ℕ) → plus d (set xs i a) (set ys i b) ≡ set (plus d xs ys) i ((a + b) % d)
plus_set d [] ys i a b = refl
plus_set d (x ∷ xs) [] zero a b = refl
plus_set d (x ∷ xs) [] (suc i) a b = refl
plus_set d (x ∷ xs) (y ∷ ys) zero a b = refl
plus_set d (x ∷ xs) (y ∷ ys) (suc i) a b = cons_path refl (plus_set d xs ys i a b)

pub plus_single : (d n i a : ℕ) (xs : List ℕ) → length xs ≡ n → Below d xs → plus d xs (set (replicate n 0) i a) ≡ set xs i ((get_or xs i 0 + a) % d)
plus_single d n i a xs e b =
    ap (λ (zs : List ℕ). plus d zs (set (replicate n 0) i a)) (sym (set-get_or xs i 0))
    ∙ plus_set d xs (replicate n 0) i (get_or xs i 0) a
    ∙ ap (λ (zs : List ℕ). set zs i ((get_or xs i 0 + a) % d)) (plus_zero_r d n xs e b)

-- ---- multiples
abbrev pub scaled : ℕ → ℕ → List ℕ → List ℕ
scaled d k [] = []
scaled d k (x ∷ xs) = k * x % d ∷ scaled d k xs

-- 0 times, one time more, and d times
pub scaled_zero : (d n : ℕ) (xs : List ℕ) → length xs ≡ n → scaled d 0 xs ≡ replicate n 0
scaled_zero d zero [] e = refl
scaled_zero d (suc n) [] e = absurd (omega arith)
scaled_zero d zero (x ∷ xs) e = absurd (omega arith)
scaled_zero d (suc n) (x ∷ xs) e = cons_path (ap (λ (z : ℕ). z % d) (omega arith) ∙ zero-mod d) (scaled_zero d n xs (omega arith))

pub suc_entry : (d k x : ℕ) → 0 < d → Cong d (k * x % d + x) ((k + 1) * x)
suc_entry d k x p = ring₁ d (k ∷ x ∷ []) p (search quote depth 30) (search quote depth 30) tt

pub scaled_suc : (d k : ℕ) → 0 < d → (xs : List ℕ) → plus d (scaled d k xs) xs ≡ scaled d (suc k) xs
scaled_suc d k p [] = refl
scaled_suc d k p (x ∷ xs) = cons_path ((suc_entry d k x p).same ∙ ap (λ (z : ℕ). z % d) (omega arith)) (scaled_suc d k p xs)

pub scaled_all : (d : ℕ) (xs : List ℕ) → scaled d d xs ≡ scaled d 0 xs
scaled_all d [] = refl
scaled_all d (x ∷ xs) = cons_path (cong_intro {m = d} {a = d * x} {b = 0 * x} 0 x (omega arith)).same (scaled_all d xs)

-- of zeros, and of a list that is zero but at one place
pub scaled_zeros : (d k n : ℕ) → scaled d k (replicate n 0) ≡ replicate n 0
scaled_zeros d k zero = refl
scaled_zeros d k (suc n) = cons_path (ap (λ (z : ℕ). z % d) (omega arith) ∙ zero-mod d) (scaled_zeros d k n)

pub scaled_single : (d k n i a : ℕ) → scaled d k (set (replicate n 0) i a) ≡ set (replicate n 0) i (k * a % d)
scaled_single d k zero i a = refl
scaled_single d k (suc n) zero a = cons_path refl (scaled_zeros d k n)
scaled_single d k (suc n) (suc i) a = cons_path (ap (λ (z : ℕ). z % d) (omega arith) ∙ zero-mod d) (scaled_single d k n i a)
