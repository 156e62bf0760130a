-- Tableaus and maps that keep products are one thing: the image of unit j is column j, and composing tableaus composes their images.
use mathlib.Core.Path.{◌≡◌, refl, sym, ◌∙◌, ap}
use mathlib.Core.List.{List, [], ◌∷◌, ◌++◌, map, map-map}
use Prim.Native.Nat.{ℕ, zero, suc, ◌+◌, ◌*◌, ◌-◌, ◌≤◌, ◌<◌}
use native.Mathlib.Nat.{zero-add, suc-add, not-suc-le-zero}
use native.Mathlib.Omega.{arith}
use lib.ListN.{length, set, replicate, length-replicate, replicate-append-replicate}
use lib.Seq.{ext_get_or, set-append_left}
use Rattle.pauli.specs.Pauli.{Pauli, InRange, product, unit, phase_only}
use Rattle.pauli.proofs.Ranges.{one_range}
use Rattle.pauli.proofs.Group.{one_left}
use Rattle.pauli.proofs.Units.{unit_case}
use Rattle.pauli.proofs.Hom.{Hom, hom_then}
use Rattle.tableau.specs.Tableau.{units, column, multiplied, image, AllInRange, none, more, WellFormed, Sound, compose}
use Rattle.tableau.proofs.Columns.{map_kept, map_formed, map_sound, units_formed, column_map, column_units, map_same, map_agree}
use Rattle.tableau.proofs.Units.{image_units}
use Rattle.tableau.proofs.Products.{total, multiplied_zeros}
use Rattle.tableau.proofs.Image.{hom_image, image_hom, image_range}

-- ---- the image of a unit
set_append_right : (xs ys : List ℕ) (i a : ℕ) → set (xs ++ ys) (length xs + i) a ≡ xs ++ set ys i a
set_append_right [] ys i a = ap (λ (j : ℕ). set ys j a) (zero-add i)
set_append_right (x ∷ xs) ys i a = ap (λ (j : ℕ). set (x ∷ xs ++ ys) j a) (suc-add (length xs) i) ∙ ap (λ (r : List ℕ). x ∷ r) (set_append_right xs ys i a)

unit_entries : (n j : ℕ) → (unit n j).v ++ (unit n j).w ≡ set (replicate (n + n) 0) j 1
unit_entries n j = unit_case (λ p. p.v ++ p.w ≡ set (replicate (n + n) 0) j 1) n j
    (λ l. sym (set-append_left (replicate n 0) (replicate n 0) j 1 (rw (length-replicate {A = ℕ} n 0) l)) ∙ ap (λ (r : List ℕ). set r j 1) zeros)
    (λ l. sym (set_append_right (replicate n 0) (replicate n 0) (j - n) 1) ∙ (λ k. set (zeros k) (index l k) 1))
  where
    zeros : replicate {A = ℕ} n 0 ++ replicate n 0 ≡ replicate (n + n) 0
    zeros = replicate-append-replicate {A = ℕ} n n 0

    index : n ≤ j → length (replicate {A = ℕ} n 0) + (j - n) ≡ j
    index l = rw (length-replicate {A = ℕ} n 0) (omega arith)

total_single : (d n m j : ℕ) {cs : List Pauli} → 0 < d → AllInRange d n cs → j < length cs → length cs ≤ m → total d n cs (set (replicate m 0) j 1) ≡ column n cs j
total_single d n m j pos none h l = absurd (not-suc-le-zero h)
total_single d n zero j pos (more c cs) h l = absurd (not-suc-le-zero l)
total_single d n (suc m) zero pos (more {cs = xs} c cs) h l =
    ap (λ (x : Pauli). multiplied d n x xs (replicate m 0)) (ap (product d (phase_only n 0)) (one_left c) ∙ one_left c)
    ∙ multiplied_zeros d n m c cs
total_single d n (suc m) (suc j) pos (more {cs = xs} c cs) h l =
    ap (λ (x : Pauli). multiplied d n x xs (set (replicate m 0) j 1)) (one_left (one_range n pos))
    ∙ total_single d n m j pos cs (omega arith) (omega arith)

pub image_unit : (d n j : ℕ) {t : List Pauli} → 0 < d → WellFormed d n t → j < 2 * n → image d n t (unit n j) ≡ column n t j
image_unit d n j {t} pos g h =
    ap (λ (x : ℕ). multiplied d n (phase_only n x) t ((unit n j).v ++ (unit n j).w)) (unit_case (λ p. p.phase ≡ 0) n j (λ l. refl) (λ l. refl))
    ∙ ap (total d n t) (unit_entries n j)
    ∙ total_single d n (n + n) j pos g.ranges (omega (arith, g.columns)) (omega (arith, g.columns))

-- the tableau of the image is the tableau
pub tableau_image : {d n : ℕ} {t : List Pauli} → 1 < d → WellFormed d n t → Sound d n t → map (image d n t) (units n) ≡ t
tableau_image {d} {n} {t} one g s = ext_get_or (phase_only n 0) (map (image d n t) (units n)) t (f.columns ∙ sym g.columns)
    (λ j l. let h : j < 2 * n = omega (arith, f.columns) in
    column_map (omega arith) m (units n) j ∙ ap (image d n t) (column_units n j h) ∙ image_unit d n j (omega arith) g h)
  where
    m : Hom d n (image d n t)
    m = image_hom one g s

    f : WellFormed d n (map (image d n t) (units n))
    f = map_formed m (units_formed d n one)

-- ---- composition: "first tableau, then second: each column of the first mapped by the second"
-- "two tableaus one after the other" are a tableau again, well formed and sound where they are
pub compose_formed : {d n : ℕ} {t u : List Pauli} → 0 < d → WellFormed d n t → WellFormed d n u → WellFormed d n (compose d n t u)
compose_formed pos g f = map_kept (λ p a. image_range pos f.ranges a) g

pub compose_sound : {d n : ℕ} {t u : List Pauli} → 1 < d → WellFormed d n t → Sound d n t → WellFormed d n u → Sound d n u → Sound d n (compose d n t u)
compose_sound one g r f s = map_sound (omega arith) (image_hom one f s) g r

-- and do to every Pauli what the first does and then the second
pub image_compose : {d n : ℕ} {t u : List Pauli} → 1 < d → WellFormed d n t → Sound d n t → WellFormed d n u → Sound d n u → (p : Pauli) → InRange d n p → image d n (compose d n t u) p ≡ image d n u (image d n t p)
image_compose {d} {n} {t} {u} one g r f s p a =
    ap (λ (x : List Pauli). image d n x p) (ap (map (image d n u)) (sym (tableau_image one g r)) ∙ map-map (image d n u) (image d n t) (units n))
    ∙ sym (hom_image one (hom_then (image_hom one g r) (image_hom one f s)) p a)

-- the unit Paulis before or after a tableau change nothing, and the order of composing does not matter
pub compose_units_left : {d n : ℕ} {t : List Pauli} → 1 < d → WellFormed d n t → Sound d n t → compose d n (units n) t ≡ t
compose_units_left one g s = tableau_image one g s

pub compose_units_right : {d n : ℕ} {t : List Pauli} → 1 < d → WellFormed d n t → compose d n t (units n) ≡ t
compose_units_right {d} {n} one g = map_same (λ p a. image_units d n one a) g.ranges

pub compose_assoc : {d n : ℕ} {t u z : List Pauli} → 1 < d → WellFormed d n t → WellFormed d n u → Sound d n u → WellFormed d n z → Sound d n z → compose d n (compose d n t u) z ≡ compose d n t (compose d n u z)
compose_assoc {d} {n} {t} {u} {z} one g f r h s =
    map-map (image d n z) (image d n u) t
    ∙ map_agree (λ p a. sym (image_compose one f r h s p a)) g.ranges
