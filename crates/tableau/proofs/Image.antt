-- The image under a tableau: every map that keeps products is the image of its tableau, and the image of a sound tableau keeps products.
use mathlib.Core.Path.{◌≡◌, refl, sym, ◌∙◌, ap}
use mathlib.Core.List.{List, [], ◌∷◌, ◌++◌, map}
use Prim.Native.Nat.{ℕ, ◌+◌, ◌*◌, ◌<◌}
use native.Mathlib.Omega.{arith}
use lib.ListN.{length, replicate-append-replicate}
use Rattle.arith.proofs.Cong.{Cong, cong_sym}
use Rattle.pauli.specs.Pauli.{Pauli, InRange, plus, product, power, comm, phase_only}
use Rattle.pauli.proofs.Sums.{plus_append}
use Rattle.pauli.proofs.Ranges.{entries_length, product_range, phase_only_range, one_range, power_range}
use Rattle.pauli.proofs.Group.{shifted, phase_left, one_right, shift_left, shift_right, shift_shift, shift_cong, shift_cancel}
use Rattle.pauli.proofs.Hom.{Hom, hom_power, hom_comm, hom_injective}
use Rattle.tableau.specs.Tableau.{units, multiplied, image, AllInRange, none, more, WellFormed, Sound}
use Rattle.tableau.proofs.Columns.{units_range, units_formed, units_sound}
use Rattle.tableau.proofs.Units.{image_units}
use Rattle.tableau.proofs.Products.{twist, total, multiplied_zeros, multiplied_range, multiplied_left, merge, twist_same, total_range, all_even}

-- ---- a map that keeps products is the image of its tableau
hom_multiplied : {d n : ℕ} {f : Pauli → Pauli} → 0 < d → Hom d n f → {cs : List Pauli} (p : Pauli) (ks : List ℕ) → InRange d n p → AllInRange d n cs → f (multiplied d n p cs ks) ≡ multiplied d n (f p) (map f cs) ks
hom_multiplied pos m p ks a none = refl
hom_multiplied pos m p [] a (more c cs) = refl
hom_multiplied {d} {n} {f} pos m p (k ∷ ks) a (more {c = x} {cs = xs} c cs) =
    hom_multiplied pos m (product d p (power d n x k)) ks (product_range pos a (power_range k pos c)) cs
    ∙ ap (λ (y : Pauli). multiplied d n y (map f xs) ks) (m.keeps p (power d n x k) a (power_range k pos c) ∙ ap (product d (f p)) (hom_power pos m x c k))

pub hom_image : {d n : ℕ} {f : Pauli → Pauli} → 1 < d → Hom d n f → (p : Pauli) → InRange d n p → f p ≡ image d n (map f (units n)) p
hom_image {d} {n} {f} one m p a =
    ap f (sym (image_units d n one a))
    ∙ hom_multiplied (omega arith) m (phase_only n p.phase) (p.v ++ p.w) (phase_only_range n p.phase (omega arith) a.phase_below) (units_range d n one)
    ∙ ap (λ (x : Pauli). multiplied d n x (map f (units n)) (p.v ++ p.w)) (m.phases p.phase a.phase_below)

-- ---- the image by its parts
image_total : (d n : ℕ) {t : List Pauli} {p : Pauli} → 0 < d → AllInRange d n t → InRange d n p → image d n t p ≡ shifted d p.phase (total d n t (p.v ++ p.w))
image_total d n {t} {p} pos js a =
    ap (λ (x : Pauli). multiplied d n x t (p.v ++ p.w)) (sym (one_right h))
    ∙ multiplied_left d n (p.v ++ p.w) pos h (one_range n pos) js
    ∙ phase_left d n p.phase (total_range (p.v ++ p.w) pos js)
  where
    h : InRange d n (phase_only n p.phase)
    h = phase_only_range n p.phase pos a.phase_below

image_phase : (d n h : ℕ) {t : List Pauli} → 0 < d → h < 2 * d → AllInRange d n t → image d n t (phase_only n h) ≡ phase_only n h
image_phase d n h {t} pos l js =
    ap (λ (ks : List ℕ). multiplied d n (phase_only n h) t ks) (replicate-append-replicate n n 0)
    ∙ multiplied_zeros d n (n + n) (phase_only_range n h pos l) js

-- ---- the image of a sound tableau keeps products
entries_columns : {d n : ℕ} {t : List Pauli} {p : Pauli} → WellFormed d n t → InRange d n p → length (p.v ++ p.w) ≡ length t
entries_columns g a = entries_length a ∙ omega (arith, g.columns)

product_total : (d n : ℕ) {t : List Pauli} {p q : Pauli} → 0 < d → WellFormed d n t → Sound d n t → InRange d n p → InRange d n q
    → product d (image d n t p) (image d n t q) ≡ shifted d (p.phase + (q.phase + 2 * twist d t (p.v ++ p.w) (q.v ++ q.w))) (total d n t (plus d (p.v ++ p.w) (q.v ++ q.w)))
product_total d n {t} {p} {q} pos g s a b =
    (λ j. product d (image_total d n pos g.ranges a j) (image_total d n pos g.ranges b j))
    ∙ shift_left d p.phase (total d n t ks) (shifted d q.phase (total d n t ls)) pos
    ∙ ap (shifted d p.phase)
    (shift_right d q.phase (total d n t ks) (total d n t ls) pos
    ∙ ap (shifted d q.phase) (merge d n ks ls pos g.ranges (all_even g s) (entries_columns g a) (entries_columns g b))
    ∙ shift_shift d q.phase (2 * twist d t ks ls) (total d n t (plus d ks ls)) pos)
    ∙ shift_shift d p.phase (q.phase + 2 * twist d t ks ls) (total d n t (plus d ks ls)) pos
  where
    ks : List ℕ
    ks = p.v ++ p.w

    ls : List ℕ
    ls = q.v ++ q.w

total_product : (d n : ℕ) {t : List Pauli} {p q : Pauli} → 0 < d → WellFormed d n t → InRange d n p → InRange d n q
    → image d n t (product d p q) ≡ shifted d (product d p q).phase (total d n t (plus d (p.v ++ p.w) (q.v ++ q.w)))
total_product d n {t} {p} {q} pos g a b =
    image_total d n pos g.ranges (product_range pos a b)
    ∙ ap (λ (ks : List ℕ). shifted d (product d p q).phase (total d n t ks)) (sym (plus_append d p.v p.w q.v q.w (a.v_length ∙ sym b.v_length)))

-- the units tell what the sum is
twist_units : (d n : ℕ) {p q : Pauli} → 1 < d → InRange d n p → InRange d n q
    → Cong (2 * d) (p.phase + (q.phase + 2 * twist d (units n) (p.v ++ p.w) (q.v ++ q.w))) (product d p q).phase
twist_units d n {p} {q} one a b = shift_cancel d _ _ (total d n (units n) (plus d (p.v ++ p.w) (q.v ++ q.w)))
    (sym (product_total d n pos (units_formed d n one) (units_sound d n one) a b)
    ∙ (λ j. product d (image_units d n one a j) (image_units d n one b j))
    ∙ sym (image_units d n one (product_range pos a b))
    ∙ total_product d n pos (units_formed d n one) a b)
  where
    pos : 0 < d
    pos = omega arith

-- "For accepted tableaus the image of a product is the product of the images"
pub image_product : (d n : ℕ) {t : List Pauli} {p q : Pauli} → 1 < d → WellFormed d n t → Sound d n t → InRange d n p → InRange d n q
    → image d n t (product d p q) ≡ product d (image d n t p) (image d n t q)
image_product d n {t} {p} {q} one g s a b =
    total_product d n pos g a b
    ∙ shift_cong d (total d n t (plus d ks ls)) (cong_sym (twist_units d n one a b))
    ∙ ap (λ (x : ℕ). shifted d (p.phase + (q.phase + 2 * x)) (total d n t (plus d ks ls))) (twist_same ks ls pos (units_formed d n one) (units_sound d n one) g s)
    ∙ sym (product_total d n pos g s a b)
  where
    pos : 0 < d
    pos = omega arith

    ks : List ℕ
    ks = p.v ++ p.w

    ls : List ℕ
    ls = q.v ++ q.w

-- the image is in range, and a phase alone is its own image: so the image of a sound tableau is a map that keeps products
pub image_range : {d n : ℕ} {t : List Pauli} {p : Pauli} → 0 < d → AllInRange d n t → InRange d n p → InRange d n (image d n t p)
image_range {n = n} {p = p} pos ts a = multiplied_range (p.v ++ p.w) pos (phase_only_range n p.phase pos a.phase_below) ts

pub image_hom : {d n : ℕ} {t : List Pauli} → 1 < d → WellFormed d n t → Sound d n t → Hom d n (image d n t)
image_hom {d} {n} one g s = record {
  range = λ p a. image_range (omega arith) g.ranges a;
  keeps = λ p q a b. image_product d n one g s a b;
  phases = λ h l. image_phase d n h (omega arith) l g.ranges;
}

-- commutation numbers are kept
pub image_comm : {d n : ℕ} {t : List Pauli} → 1 < d → WellFormed d n t → Sound d n t → (p q : Pauli) → InRange d n p → InRange d n q → comm d (image d n t p) (image d n t q) ≡ comm d p q
image_comm one g s = hom_comm (omega arith) (image_hom one g s)

-- different Paulis have different images
pub image_injective : {d n : ℕ} {t : List Pauli} → 1 < d → WellFormed d n t → Sound d n t → (p q : Pauli) → InRange d n p → InRange d n q → image d n t p ≡ image d n t q → p ≡ q
image_injective one g s = hom_injective one (image_hom one g s)
