-- Products of powers of columns: how two of them multiply.
use mathlib.Core.Path.{◌≡◌, refl, sym, ◌∙◌, ap}
use mathlib.Core.List.{List, [], ◌∷◌}
use Prim.Native.Nat.{ℕ, zero, suc, ◌+◌, ◌*◌, ◌%◌, ◌<◌}
use native.Mathlib.Nat.{zero-mod}
use native.Mathlib.Omega.{arith}
use lib.ListN.{length, get_or, replicate}
use Rattle.arith.proofs.Cong.{Cong, cong_of_eq, cong_trans}
use Rattle.arith.specs.Residues.{neg}
use Rattle.arith.proofs.Ring.{ring₁, ring₂, quote}
use Rattle.pauli.specs.Pauli.{Pauli, InRange, plus, product, power, comm, parity, phase_only}
use Rattle.pauli.proofs.Ranges.{product_range, one_range, power_range}
use Rattle.pauli.proofs.Group.{product_assoc, shifted, one_left, one_right, shifted_zero, shift_right, shift_shift, shift_cong, exchange_middle, power_add, power_mod, comm_product_l, comm_phase_l, comm_power_l, comm_power_r, comm_skew}
use Rattle.tableau.specs.Tableau.{multiplied, AllInRange, none, more, WellFormed, Sound}

-- ---- products of powers of columns
pub multiplied_range : {d n : ℕ} {cs : List Pauli} {p : Pauli} (ks : List ℕ) → 0 < d → InRange d n p → AllInRange d n cs → InRange d n (multiplied d n p cs ks)
multiplied_range ks pos a none = a
multiplied_range [] pos a (more c cs) = a
multiplied_range (k ∷ ks) pos a (more c cs) = multiplied_range ks pos (product_range pos a (power_range k pos c)) cs

pub multiplied_left : (d n : ℕ) {cs : List Pauli} {p q : Pauli} (ks : List ℕ) → 0 < d → InRange d n p → InRange d n q → AllInRange d n cs → multiplied d n (product d p q) cs ks ≡ product d p (multiplied d n q cs ks)
multiplied_left d n ks pos a b none = refl
multiplied_left d n [] pos a b (more c cs) = refl
multiplied_left d n (k ∷ ks) pos a b (more {cs = xs} c cs) =
    ap (λ (x : Pauli). multiplied d n x xs ks) (product_assoc d pos a b (power_range k pos c))
    ∙ multiplied_left d n ks pos a (product_range pos b (power_range k pos c)) cs

-- the product of the columns to the powers ks
abbrev pub total : ℕ → ℕ → List Pauli → List ℕ → Pauli
total d n cs ks = multiplied d n (phase_only n 0) cs ks

pub total_range : {d n : ℕ} {cs : List Pauli} (ks : List ℕ) → 0 < d → AllInRange d n cs → InRange d n (total d n cs ks)
total_range {n = n} ks pos cs = multiplied_range ks pos (one_range n pos) cs

total_cons : (d n : ℕ) {c : Pauli} {cs : List Pauli} (k : ℕ) (ks : List ℕ) → 0 < d → InRange d n c → AllInRange d n cs → total d n (c ∷ cs) (k ∷ ks) ≡ product d (power d n c k) (total d n cs ks)
total_cons d n {c} {cs} k ks pos a js =
    ap (λ (x : Pauli). multiplied d n x cs ks) (one_left b ∙ sym (one_right b))
    ∙ multiplied_left d n ks pos b (one_range n pos) js
  where
    b : InRange d n (power d n c k)
    b = power_range k pos a

-- all powers 0
pub multiplied_zeros : (d n : ℕ) {cs : List Pauli} {p : Pauli} (m : ℕ) → InRange d n p → AllInRange d n cs → multiplied d n p cs (replicate m 0) ≡ p
multiplied_zeros d n m a none = refl
multiplied_zeros d n zero a (more c cs) = refl
multiplied_zeros d n (suc m) a (more {cs = xs} c cs) = ap (λ (x : Pauli). multiplied d n x xs (replicate m 0)) (one_right a) ∙ multiplied_zeros d n m a cs

-- ---- the sum over the columns j > k of aⱼ·bₖ·comm(column j, column k)
abbrev pub crossing : ℕ → Pauli → List Pauli → List ℕ → ℕ
crossing d c [] ks = 0
crossing d c (x ∷ xs) [] = 0
crossing d c (x ∷ xs) (k ∷ ks) = k * comm d x c + crossing d c xs ks

abbrev pub twist : ℕ → List Pauli → List ℕ → List ℕ → ℕ
twist d [] js bs = 0
twist d (c ∷ cs) [] bs = 0
twist d (c ∷ cs) (a ∷ js) [] = 0
twist d (c ∷ cs) (a ∷ js) (b ∷ bs) = b * crossing d c cs js + twist d cs js bs

cross_step : (d k x y : ℕ) → 0 < d → Cong d (k * x % d + y % d) (k * x + y)
cross_step d k x y pos = ring₁ d (k ∷ x ∷ y ∷ []) pos (search quote depth 30) (search quote depth 30) tt

comm_total : (d n : ℕ) (c : Pauli) {cs : List Pauli} (ks : List ℕ) → 0 < d → AllInRange d n cs → comm d (total d n cs ks) c ≡ crossing d c cs ks % d
comm_total d n c ks pos none = comm_phase_l d n 0 c pos ∙ sym (zero-mod d)
comm_total d n c [] pos (more a js) = comm_phase_l d n 0 c pos ∙ sym (zero-mod d)
comm_total d n c (k ∷ ks) pos (more {c = x} {cs = xs} a js) =
    ap (λ (y : Pauli). comm d y c) (total_cons d n k ks pos a js)
    ∙ comm_product_l d c pos (power_range k pos a) (total_range ks pos js)
    ∙ (λ j. (comm_power_l d n c k pos a j + comm_total d n c ks pos js j) % d)
    ∙ (cross_step d k (comm d x c) (crossing d c xs ks) pos).same

pub data AllEven (d : ℕ) : List Pauli → Type 0 where
  even_none : AllEven d []
  even_more : {c : Pauli} {cs : List Pauli} → parity d c ≡ 0 → AllEven d cs → AllEven d (c ∷ cs)

merge_phase : (d b x y : ℕ) → 0 < d → Cong (2 * d) (2 * (b * (x % d) % d) + 2 * y) (2 * (b * x + y))
merge_phase d b x y pos = ring₂ d (b ∷ x ∷ y ∷ []) pos (search quote depth 30) (search quote depth 30) tt

pub merge : (d n : ℕ) {cs : List Pauli} (js bs : List ℕ) → 0 < d → AllInRange d n cs → AllEven d cs → length js ≡ length cs → length bs ≡ length cs
    → product d (total d n cs js) (total d n cs bs) ≡ shifted d (2 * twist d cs js bs) (total d n cs (plus d js bs))
merge d n [] [] pos none even_none e f = one_left (one_range n pos) ∙ sym (shifted_zero {n = n} (one_range n pos))
merge d n (a ∷ js) bs pos none even_none e f = absurd (omega arith)
merge d n [] (b ∷ bs) pos none even_none e f = absurd (omega arith)
merge d n [] bs pos (more r rs) (even_more p ps) e f = absurd (omega arith)
merge d n (a ∷ js) [] pos (more r rs) (even_more p ps) e f = absurd (omega arith)
merge d n (a ∷ js) (b ∷ bs) pos (more {c = c} {cs = cs} r rs) (even_more p ps) e f =
    (λ j. product d (total_cons d n a js pos r rs j) (total_cons d n b bs pos r rs j))
    ∙ exchange_middle d n pos (power_range a pos r) (total_range js pos rs) (power_range b pos r) (total_range bs pos rs)
    ∙ ap (shifted d g)
    ((λ j. product d ((sym (power_add d n a b pos r) ∙ sym (power_mod d n (a + b) pos r p)) j) (merge d n {cs = cs} js bs pos rs ps (omega arith) (omega arith) j))
    ∙ shift_right d h (power d n c ((a + b) % d)) (total d n cs (plus d js bs)) pos
    ∙ ap (shifted d h) (sym (total_cons d n ((a + b) % d) (plus d js bs) pos r rs)))
    ∙ shift_shift d g h (total d n (c ∷ cs) ((a + b) % d ∷ plus d js bs)) pos
    ∙ shift_cong d (total d n (c ∷ cs) ((a + b) % d ∷ plus d js bs)) phases
  where
    g : ℕ
    g = 2 * comm d (total d n cs js) (power d n c b)

    h : ℕ
    h = 2 * twist d cs js bs

    phases : Cong (2 * d) (g + h) (2 * (b * crossing d c cs js + twist d cs js bs))
    phases = cong_trans (cong_of_eq (ap (λ (x : ℕ). 2 * x + h) (comm_power_r d n (total d n cs js) b pos r ∙ ap (λ (x : ℕ). b * x % d) (comm_total d n c js pos rs))))
        (merge_phase d b (crossing d c cs js) (twist d cs js bs) pos)

-- ---- two lists of columns with the same commutation numbers have the same sums
data AlikeTo (d : ℕ) (c e : Pauli) : List Pauli → List Pauli → Type 0 where
  to_none : AlikeTo d c e [] []
  to_more : {x y : Pauli} {xs ys : List Pauli} → comm d c x ≡ comm d e y → AlikeTo d c e xs ys → AlikeTo d c e (x ∷ xs) (y ∷ ys)

data Alike (d : ℕ) : List Pauli → List Pauli → Type 0 where
  alike_none : Alike d [] []
  alike_more : {x y : Pauli} {xs ys : List Pauli} → AlikeTo d x y xs ys → Alike d xs ys → Alike d (x ∷ xs) (y ∷ ys)

alike_crossing : {d : ℕ} {c e : Pauli} {xs ys : List Pauli} (ks : List ℕ) → 0 < d → AlikeTo d c e xs ys → crossing d c xs ks ≡ crossing d e ys ks
alike_crossing ks pos to_none = refl
alike_crossing [] pos (to_more h a) = refl
alike_crossing {d} {c} {e} (k ∷ ks) pos (to_more {x = x} {y = y} h a) =
    λ j. k * (comm_skew d x c pos ∙ ap (λ (z : ℕ). neg d z % d) h ∙ sym (comm_skew d y e pos)) j + alike_crossing ks pos a j

alike_twist : {d : ℕ} {xs ys : List Pauli} (js ks : List ℕ) → 0 < d → Alike d xs ys → twist d xs js ks ≡ twist d ys js ks
alike_twist js ks pos alike_none = refl
alike_twist [] ks pos (alike_more h a) = refl
alike_twist (j ∷ js) [] pos (alike_more h a) = refl
alike_twist (j ∷ js) (k ∷ ks) pos (alike_more h a) = λ i. k * alike_crossing js pos h i + alike_twist js ks pos a i

alike_to : (d : ℕ) (c e z : Pauli) (xs ys : List Pauli) → length xs ≡ length ys → ((k : ℕ) → k < length xs → comm d c (get_or xs k z) ≡ comm d e (get_or ys k z)) → AlikeTo d c e xs ys
alike_to d c e z [] [] l h = to_none
alike_to d c e z [] (y ∷ ys) l h = absurd (omega arith)
alike_to d c e z (x ∷ xs) [] l h = absurd (omega arith)
alike_to d c e z (x ∷ xs) (y ∷ ys) l h = to_more (h 0 (omega arith)) (alike_to d c e z xs ys (omega arith) (λ k m. h (suc k) (omega arith)))

alike_of : (d : ℕ) (z : Pauli) (xs ys : List Pauli) → length xs ≡ length ys → ((j k : ℕ) → j < k → k < length xs → comm d (get_or xs j z) (get_or xs k z) ≡ comm d (get_or ys j z) (get_or ys k z)) → Alike d xs ys
alike_of d z [] [] l h = alike_none
alike_of d z [] (y ∷ ys) l h = absurd (omega arith)
alike_of d z (x ∷ xs) [] l h = absurd (omega arith)
alike_of d z (x ∷ xs) (y ∷ ys) l h = alike_more
    (alike_to d x y z xs ys (omega arith) (λ k m. h 0 (suc k) (omega arith) (omega arith)))
    (alike_of d z xs ys (omega arith) (λ j k m r. h (suc j) (suc k) (omega arith) (omega arith)))

even_of : (d : ℕ) (z : Pauli) (xs : List Pauli) → ((j : ℕ) → j < length xs → parity d (get_or xs j z) ≡ 0) → AllEven d xs
even_of d z [] h = even_none
even_of d z (x ∷ xs) h = even_more (h 0 (omega arith)) (even_of d z xs (λ j m. h (suc j) (omega arith)))

pub all_even : {d n : ℕ} {t : List Pauli} → WellFormed d n t → Sound d n t → AllEven d t
all_even {d} {n} {t} f s = even_of d (phase_only n 0) t (λ j m. s.parities.even j (omega (arith, f.columns)))

all_alike : {d n : ℕ} {t u : List Pauli} → WellFormed d n t → Sound d n t → WellFormed d n u → Sound d n u → Alike d t u
all_alike {d} {n} {t} {u} f s g r = alike_of d (phase_only n 0) t u (f.columns ∙ sym g.columns)
    (λ j k l m. let k_in : k < 2 * n = omega (arith, f.columns) in s.pairing.pairs j k l k_in ∙ sym (r.pairing.pairs j k l k_in))

pub twist_same : {d n : ℕ} {t u : List Pauli} (js ks : List ℕ) → 0 < d → WellFormed d n t → Sound d n t → WellFormed d n u → Sound d n u → twist d t js ks ≡ twist d u js ks
twist_same js ks pos f s g r = alike_twist js ks pos (all_alike f s g r)
