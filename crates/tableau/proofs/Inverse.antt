-- The inverse of a sound tableau, read off its columns: undoes it from both sides, and is sound.
use mathlib.Core.Path.{◌≡◌, refl, sym, ◌∙◌, ap}
use mathlib.Core.List.{List, [], ◌∷◌, map, map-map}
use Prim.Native.Nat.{ℕ, ◌+◌, ◌*◌, ◌%◌, ◌<◌}
use native.Mathlib.Nat.{mod-eq_of_lt}
use native.Mathlib.Omega.{arith}
use lib.ListN.{length, get_or, length-map}
use lib.Seq.{ext_get_or}
use Rattle.arith.proofs.Cong.{Cong}
use Rattle.arith.specs.Residues.{neg}
use Rattle.arith.proofs.Ring.{ring₂, quote}
use Rattle.arith.proofs.Remainders.{neg_neg}
use Rattle.pauli.specs.Pauli.{Pauli, InRange, product, comm, unit, unit_x, unit_z, phase_only}
use Rattle.pauli.proofs.Ranges.{pauli_path, product_range, phase_only_range, v_less, w_less}
use Rattle.pauli.proofs.Units.{unit_x_lem, unit_z_lem, unit_range, comm_unit_x, comm_unit_z, unit_x_comm, unit_z_comm}
use Rattle.pauli.proofs.Hom.{Hom, bare, hom_bare}
use Rattle.pauli.proofs.Onto.{Source, hom_onto}
use Rattle.tableau.specs.Inverse.{drawn, preimage, inverse}
use Rattle.tableau.specs.Tableau.{up_from, units, column, image, AllInRange, WellFormed, Sound, compose}
use Rattle.tableau.proofs.Columns.{length_up_from, hom_formed, hom_sound, units_range, column_range, get_d_up_from, map_same, map_agree}
use Rattle.tableau.proofs.Units.{image_units}
use Rattle.tableau.proofs.Image.{hom_image, image_hom, image_comm, image_range}
use Rattle.tableau.proofs.Compose.{image_unit, tableau_image, image_compose}

-- ---- the entries of the inverse, written out: of unit k below n, and of unit n + k
pub drawn_x : (d n k : ℕ) {t : List Pauli} → 0 < d → AllInRange d n t → k < n → drawn d n t (unit_x n k) ≡ record {
  phase = 0;
  v = map (λ i. get_or (column n t (n + i)).w k 0) (up_from 0 n);
  w = map (λ i. neg d (get_or (column n t i).w k 0) % d) (up_from 0 n);
}
drawn_x d n k {t} pos ts l = pauli_path refl
    (λ j. map (λ i. (ap (λ (x : ℕ). neg d x % d) (unit_x_comm d n k (column n t (n + i)) pos l) ∙ neg_neg d (get_or (column n t (n + i)).w k 0) (w_less (column_range (n + i) pos ts) k)) j) (up_from 0 n))
    (λ j. map (λ i. unit_x_comm d n k (column n t i) pos l j) (up_from 0 n))

pub drawn_z : (d n k : ℕ) {t : List Pauli} → 0 < d → AllInRange d n t → k < n → drawn d n t (unit_z n k) ≡ record {
  phase = 0;
  v = map (λ i. neg d (get_or (column n t (n + i)).v k 0) % d) (up_from 0 n);
  w = map (λ i. get_or (column n t i).v k 0) (up_from 0 n);
}
drawn_z d n k {t} pos ts l = pauli_path refl
    (λ j. map (λ i. neg d ((unit_z_comm d n k (column n t (n + i)) pos l ∙ mod-eq_of_lt (v_less (column_range (n + i) pos ts) k)) j) % d) (up_from 0 n))
    (λ j. map (λ i. (unit_z_comm d n k (column n t i) pos l ∙ mod-eq_of_lt (v_less (column_range i pos ts) k)) j) (up_from 0 n))

-- ---- what t carries p to is drawn back to p
back_phase : (d h x : ℕ) → 0 < d → Cong (2 * d) ((h + x) % (2 * d) + neg (2 * d) x) h
back_phase d h x pos = ring₂ d (h ∷ x ∷ []) pos (search quote depth 30) (search quote depth 30) tt

-- a list by its entries
listed : (n : ℕ) (g : ℕ → ℕ) (xs : List ℕ) → length xs ≡ n → ((i : ℕ) → i < n → g i ≡ get_or xs i 0) → map g (up_from 0 n) ≡ xs
listed n g xs e h = ext_get_or 0 (map g (up_from 0 n)) xs (l ∙ sym e)
    (λ i k. let m : i < n = omega (arith, l) in get_d_up_from g 0 0 n i m ∙ ap g (omega arith) ∙ h i m)
  where
    l : length (map g (up_from 0 n)) ≡ n
    l = length-map (up_from 0 n) g ∙ length_up_from 0 n

module _ {d n : ℕ} {t : List Pauli} (one : 1 < d) (g : WellFormed d n t) (s : Sound d n t) where
  column_comm : (j : ℕ) (p : Pauli) → j < 2 * n → InRange d n p → comm d (image d n t p) (column n t j) ≡ comm d p (unit n j)
  column_comm j p h a = ap (comm d (image d n t p)) (sym (image_unit d n j (omega arith) g h)) ∙ image_comm one g s p (unit n j) a (unit_range d n j one)

  pub drawn_image : (p : Pauli) → InRange d n p → drawn d n t (image d n t p) ≡ bare p
  drawn_image p a = pauli_path refl
      (listed n (λ i. neg d (comm d (image d n t p) (column n t (n + i))) % d) p.v a.v_length (λ i l.
      ap (λ (x : ℕ). neg d x % d) (column_comm (n + i) p (omega arith) a ∙ ap (comm d p) (unit_z_lem n (n + i) (omega arith) ∙ ap (unit_z n) (omega arith)) ∙ comm_unit_z d n i p (omega arith) l)
      ∙ neg_neg d (get_or p.v i 0) (v_less a i)))
      (listed n (λ i. comm d (image d n t p) (column n t i)) p.w a.w_length (λ i l.
      column_comm i p (omega arith) a ∙ ap (comm d p) (unit_x_lem n i l) ∙ comm_unit_x d n i p (omega arith) l ∙ mod-eq_of_lt (w_less a i)))

  pub preimage_image : (p : Pauli) → InRange d n p → preimage d n t (image d n t p) ≡ p
  preimage_image p a = pauli_path
      ((λ k. ((hom_bare one (image_hom one g s) p a k).phase + neg (2 * d) (image d n t (drawn_image p a k)).phase) % (2 * d))
      ∙ (back_phase d p.phase (image d n t (bare p)).phase (omega arith)).same ∙ mod-eq_of_lt a.phase_below)
      (ap (λ (x : Pauli). x.v) (drawn_image p a))
      (ap (λ (x : Pauli). x.w) (drawn_image p a))

  -- every Pauli is the image of one
  reached : (q : Pauli) → InRange d n q → Source d n (image d n t) q
  reached q b = hom_onto one (image_hom one g s) q b

  preimage_source : (q : Pauli) (b : InRange d n q) → preimage d n t q ≡ (reached q b).source
  preimage_source q b = let z = reached q b in ap (preimage d n t) (sym z.reaches) ∙ preimage_image z.source z.source_range

  pub image_preimage : (q : Pauli) → InRange d n q → image d n t (preimage d n t q) ≡ q
  image_preimage q b = ap (image d n t) (preimage_source q b) ∙ (reached q b).reaches

  pub preimage_range : (q : Pauli) → InRange d n q → InRange d n (preimage d n t q)
  preimage_range q b = rw (preimage_source q b) (reached q b).source_range

  pub preimage_hom : Hom d n (preimage d n t)
  preimage_hom = record {
    range = preimage_range;
    keeps = λ p q a b.
        ap (preimage d n t) ((λ k. product d (sym (image_preimage p a) k) (sym (image_preimage q b) k)) ∙ sym ((image_hom one g s).keeps (preimage d n t p) (preimage d n t q) (preimage_range p a) (preimage_range q b)))
        ∙ preimage_image (product d (preimage d n t p) (preimage d n t q)) (product_range (omega arith) (preimage_range p a) (preimage_range q b));
    phases = λ h l. ap (preimage d n t) (sym ((image_hom one g s).phases h l)) ∙ preimage_image (phase_only n h) (phase_only_range n h (omega arith) l);
  }

  -- ---- the inverse tableau, "the tableau that undoes another": well formed and sound
  pub inverse_formed : WellFormed d n (inverse d n t)
  inverse_formed = hom_formed one preimage_hom

  pub inverse_sound : Sound d n (inverse d n t)
  inverse_sound = hom_sound one preimage_hom

  -- it carries every Pauli back
  pub image_inverse : (q : Pauli) → InRange d n q → image d n (inverse d n t) q ≡ preimage d n t q
  image_inverse q b = sym (hom_image one preimage_hom q b)

  -- "composed in either order it gives the unit Paulis": t, then its inverse
  pub inverse_right : compose d n t (inverse d n t) ≡ units n
  inverse_right =
      ap (map (image d n (inverse d n t))) (sym (tableau_image one g s))
      ∙ map-map (image d n (inverse d n t)) (image d n t) (units n)
      ∙ map_same (λ p a. image_inverse (image d n t p) (image_range (omega arith) g.ranges a) ∙ preimage_image p a) (units_range d n one)

  -- the inverse, then t
  pub inverse_left : compose d n (inverse d n t) t ≡ units n
  inverse_left = map-map (image d n t) (preimage d n t) (units n) ∙ map_same image_preimage (units_range d n one)

  -- and it is the only tableau that does
  pub inverse_unique : {u : List Pauli} → WellFormed d n u → Sound d n u → compose d n t u ≡ units n → u ≡ inverse d n t
  inverse_unique {u} f r e =
      sym (tableau_image one f r)
      ∙ map_agree (λ q b.
      ap (image d n u) (sym (image_preimage q b))
      ∙ sym (image_compose one g s f r (preimage d n t q) (preimage_range q b))
      ∙ ap (λ (x : List Pauli). image d n x (preimage d n t q)) e
      ∙ image_units d n one (preimage_range q b)) (units_range d n one)
