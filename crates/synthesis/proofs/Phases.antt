-- The end of the reduction: columns that are units up to phase become the units.
use mathlib.Core.Path.{◌≡◌, refl, sym, ◌∙◌, ap, subst}
use mathlib.Core.List.{List, [], ◌∷◌}
use mathlib.Core.Logic.{◌≢◌}
use Prim.Native.Nat.{ℕ, suc, ◌+◌, ◌*◌, ◌-◌, ◌/◌, ◌%◌, ◌≤◌, ◌<◌}
use native.Mathlib.Nat.{mod-lt, mod-add-div', mul-zero, not-suc-le-zero}
use native.Mathlib.Omega.{arith}
use lib.ListN.{length, get_or}
use lib.Seq.{ext_get_or}
use Rattle.arith.proofs.Cong.{Cong, cong_of_eq, cong_trans}
use Rattle.arith.specs.Residues.{neg}
use Rattle.arith.proofs.Ring.{ring₂, quote}
use Rattle.arith.proofs.Remainders.{idle, mod_of, mul_none, neg_none}
use Rattle.pauli.specs.Pauli.{Pauli, dot, parity, unit, unit_x, unit_z, phase_only}
use Rattle.pauli.proofs.Lists.{all_single, all_zero}
use Rattle.pauli.proofs.Dots.{dot_at}
use Rattle.pauli.proofs.Ranges.{pauli_path}
use Rattle.pauli.proofs.Units.{unit_case}
use Rattle.gates.specs.Row.{X, Z}
use Rattle.tableau.specs.Tableau.{up_from, units}
use Rattle.tableau.proofs.Columns.{length_units, column_units}
use Rattle.synthesis.specs.Inner.Reduce.{State, each, minus, put, put_x, put_z, phases}
use Rattle.synthesis.proofs.Reached.{Reached, choose_case}
use Rattle.synthesis.proofs.Entries.{IsX, IsZ, v_of, w_of}
use Rattle.synthesis.proofs.Steps.{Effect, Base, col, col_range, put_step, none_step, base_step, each_law}
use Rattle.synthesis.proofs.FirstColumn.{one_more}

-- ---- numbers: modulo 2·d
keep_z : (d h k x : ℕ) → h < 2 * d → x ≡ 0 → (h + 2 * (k * x)) % (2 * d) ≡ h
keep_z d h k x l e = idle l (cong_of_eq (mul_none 2 (mul_none k e)))

keep_x : (d h k x : ℕ) → h < 2 * d → x ≡ 0 → (h + neg (2 * d) (2 * (k * x))) % (2 * d) ≡ h
keep_x d h k x l e = idle l (neg_none (omega arith) (mul_none 2 (mul_none k e)))

none_z : (d h x : ℕ) → h < 2 * d → (h + 2 * (0 * x)) % (2 * d) ≡ h
none_z d h x l = idle l (cong_of_eq (omega arith))

none_x : (d h x : ℕ) → h < 2 * d → (h + neg (2 * d) (2 * (0 * x))) % (2 * d) ≡ h
none_x d h x l = idle l (neg_none (omega arith) (omega arith))

half : (h : ℕ) → h % 2 ≡ 0 → h ≡ 2 * (h / 2)
half h e = omega (arith, mod-add-div' h 2)

clear_z_at : (d m : ℕ) → 0 < d → Cong (2 * d) (2 * m + 2 * (neg d m % d * 1)) 0
clear_z_at d m p = ring₂ d (m ∷ []) p (search quote depth 30) (search quote depth 30) tt

clear_z : (d h x : ℕ) → 0 < d → h % 2 ≡ 0 → x ≡ 1 → (h + 2 * (neg d (h / 2) % d * x)) % (2 * d) ≡ 0
clear_z d h x p e f = mod_of (h + 2 * (neg d (h / 2) % d * x))
    (cong_trans (cong_of_eq (ap (λ (z : ℕ). h + 2 * (neg d (h / 2) % d * z)) f ∙ ap (λ (z : ℕ). z + 2 * (neg d (h / 2) % d * 1)) (half h e))) (clear_z_at d (h / 2) p)) (omega arith)

clear_x_at : (d m : ℕ) → 0 < d → Cong (2 * d) (2 * m + neg (2 * d) (2 * (m % d * 1))) 0
clear_x_at d m p = ring₂ d (m ∷ []) p (search quote depth 30) (search quote depth 30) tt

clear_x : (d h x : ℕ) → 0 < d → h % 2 ≡ 0 → x ≡ 1 → (h + neg (2 * d) (2 * (h / 2 % d * x))) % (2 * d) ≡ 0
clear_x d h x p e f = mod_of (h + neg (2 * d) (2 * (h / 2 % d * x)))
    (cong_trans (cong_of_eq (ap (λ (z : ℕ). h + neg (2 * d) (2 * (h / 2 % d * z))) f ∙ ap (λ (z : ℕ). z + neg (2 * d) (2 * (h / 2 % d * 1))) (half h e))) (clear_x_at d (h / 2) p)) (omega arith)

even_phase : (d h x : ℕ) → x ≡ 0 → (h + (d - 1) * x) % 2 ≡ 0 → h % 2 ≡ 0
even_phase d h x e f = ap (λ (z : ℕ). z % 2) (omega (arith, mul_none (d - 1) e)) ∙ f

-- ---- the steps
pub record AfterZ (d i k : ℕ) (p q : Pauli) : Type 0 where
  pub v_same : q.v ≡ p.v
  pub w_same : q.w ≡ p.w
  pub phase_at : q.phase ≡ (p.phase + 2 * (k * v_of p i)) % (2 * d)

pub record AfterX (d i k : ℕ) (p q : Pauli) : Type 0 where
  pub v_same : q.v ≡ p.v
  pub w_same : q.w ≡ p.w
  pub phase_at : q.phase ≡ (p.phase + neg (2 * d) (2 * (k * w_of p i))) % (2 * d)

x_same : {k : ℕ} (p q : Pauli) → q.v ≡ p.v → q.w ≡ p.w → IsX k p → IsX k q
x_same {k} p q e f x = record {
  v_one = ap (λ (l : List ℕ). get_or l k 0) e ∙ x.v_one;
  v_rest = λ i ne. ap (λ (l : List ℕ). get_or l i 0) e ∙ x.v_rest i ne;
  w_all = λ i. ap (λ (l : List ℕ). get_or l i 0) f ∙ x.w_all i;
}

z_same : {k : ℕ} (p q : Pauli) → q.v ≡ p.v → q.w ≡ p.w → IsZ k p → IsZ k q
z_same {k} p q e f x = record {
  w_one = ap (λ (l : List ℕ). get_or l k 0) f ∙ x.w_one;
  w_rest = λ i ne. ap (λ (l : List ℕ). get_or l i 0) f ∙ x.w_rest i ne;
  v_all = λ i. ap (λ (l : List ℕ). get_or l i 0) e ∙ x.v_all i;
}

module _ {d n : ℕ} {t₀ : List Pauli} {s : State} (h : Reached d n t₀ s) where
  put_z_lem : (i k : ℕ) → i < n → k < d → Effect d n t₀ (AfterZ d i k) s (put_z d i k s)
  put_z_lem i k l m = choose_case (λ (x : State). Effect d n t₀ (AfterZ d i k) s x) k 0 s (put d (Z i k) s)
      (λ e. none_step h (AfterZ d i k) (λ p r. subst (λ (x : ℕ). AfterZ d i x p p) (sym e)
      (record { v_same = refl; w_same = refl; phase_at = sym (none_z d p.phase (v_of p i) r.phase_below) })))
      (λ ne. put_step h (AfterZ d i k) (Z i k) (record { qudit = l; power_low = pos ne; power_high = omega arith }) (λ p r. record { v_same = refl; w_same = refl; phase_at = refl }))
    where
      pos : k ≢ 0 → 1 ≤ k
      pos ne = omega arith

  put_x_lem : (i k : ℕ) → i < n → k < d → Effect d n t₀ (AfterX d i k) s (put_x d i k s)
  put_x_lem i k l m = choose_case (λ (x : State). Effect d n t₀ (AfterX d i k) s x) k 0 s (put d (X i k) s)
      (λ e. none_step h (AfterX d i k) (λ p r. subst (λ (x : ℕ). AfterX d i x p p) (sym e)
      (record { v_same = refl; w_same = refl; phase_at = sym (none_x d p.phase (w_of p i) r.phase_below) })))
      (λ ne. put_step h (AfterX d i k) (X i k) (record { qudit = l; power_low = pos ne; power_high = omega arith }) (λ p r. record { v_same = refl; w_same = refl; phase_at = refl }))
    where
      pos : k ≢ 0 → 1 ≤ k
      pos ne = omega arith

module _ {d n : ℕ} {t₀ : List Pauli} {t : ℕ} {s s' : State} (b : Base d n t₀ t s) where
  base_z : {i k : ℕ} → Effect d n t₀ (AfterZ d i k) s s' → Base d n t₀ t s'
  base_z st = base_step b st (λ k p q l r x a. x_same p q a.v_same a.w_same x) (λ k p q l r x a. z_same p q a.v_same a.w_same x)

  base_x : {i k : ℕ} → Effect d n t₀ (AfterX d i k) s s' → Base d n t₀ t s'
  base_x st = base_step b st (λ k p q l r x a. x_same p q a.v_same a.w_same x) (λ k p q l r x a. z_same p q a.v_same a.w_same x)

-- the phase of a unit up to phase is even
x_even : {k : ℕ} (d : ℕ) (p : Pauli) → IsX k p → parity d p ≡ 0 → p.phase % 2 ≡ 0
x_even {k} d p x e = even_phase d p.phase (dot p.w p.v) (dot_at p.w p.v k x.v_rest ∙ ap (λ (z : ℕ). z * v_of p k) (x.w_all k) ∙ omega arith) e

z_even : {k : ℕ} (d : ℕ) (p : Pauli) → IsZ k p → parity d p ≡ 0 → p.phase % 2 ≡ 0
z_even {k} d p x e = even_phase d p.phase (dot p.w p.v) (dot_at p.w p.v k (λ i ne. x.v_all i) ∙ ap (λ (z : ℕ). w_of p k * z) (x.v_all k) ∙ mul-zero (w_of p k)) e

pub record Phased (d n : ℕ) (t₀ : List Pauli) (j : ℕ) (s : State) : Type 0 where
  pub base : Base d n t₀ n s
  pub x_none : (k : ℕ) → k < j → (col n s k).phase ≡ 0
  pub z_none : (k : ℕ) → k < j → (col n s (n + k)).phase ≡ 0

module _ {d n : ℕ} (one : 1 < d) {t₀ : List Pauli} where
  phased_step : (j : ℕ) (s : State) → j < n → Phased d n t₀ j s → Phased d n t₀ (suc j) (phases d n j s)
  phased_step j s jn h =
      let b0 = h.base in
      let p = col n s j in
      let k = minus d (p.phase / 2) in
      let s1 = put_z d j k s in
      let st1 = put_z_lem b0.reached j k jn (mod-lt (neg d (p.phase / 2)) (omega arith)) in
      let b1 = base_z b0 st1 in
      let q = col n s1 (n + j) in
      let m = q.phase / 2 % d in
      let st2 = put_x_lem b1.reached j m jn (mod-lt (q.phase / 2) (omega arith)) in
      let b2 = base_x b1 st2 in
      record {
        base = b2;
        x_none = λ i l. (st2.after i).phase_at
            ∙ keep_x d (col n s1 i).phase m (w_of (col n s1 i) j) (col_range b1.reached i).phase_below ((b1.done_x i (omega arith)).w_all j)
            ∙ (st1.after i).phase_at
            ∙ one_more i j l
            (λ e. subst (λ (y : ℕ). ((col n s y).phase + 2 * (k * v_of (col n s y) j)) % (2 * d) ≡ 0) (sym e)
            (clear_z d p.phase (v_of p j) (omega arith) (x_even d p (b0.done_x j jn) (b0.reached.sound.parities.even j (omega arith))) (b0.done_x j jn).v_one))
            (λ ne m. keep_z d (col n s i).phase k (v_of (col n s i) j) (col_range b0.reached i).phase_below ((b0.done_x i (omega arith)).v_rest j (λ e. ne (sym e))) ∙ h.x_none i m);
        z_none = λ i l. (st2.after (n + i)).phase_at ∙ one_more i j l
            (λ e. subst (λ (y : ℕ). ((col n s1 (n + y)).phase + neg (2 * d) (2 * (m * w_of (col n s1 (n + y)) j))) % (2 * d) ≡ 0) (sym e)
            (clear_x d q.phase (w_of q j) (omega arith) (z_even d q (b1.done_z j jn) (b1.reached.sound.parities.even (n + j) (omega arith))) (b1.done_z j jn).w_one))
            (λ ne m'. keep_x d (col n s1 (n + i)).phase m (w_of (col n s1 (n + i)) j) (col_range b1.reached (n + i)).phase_below ((b1.done_z i (omega arith)).w_rest j (λ e. ne (sym e)))
            ∙ (st1.after (n + i)).phase_at
            ∙ keep_z d (col n s (n + i)).phase k (v_of (col n s (n + i)) j) (col_range b0.reached (n + i)).phase_below ((b0.done_z i (omega arith)).v_all j)
            ∙ h.z_none i m');
      }

  pub phases_law : (s : State) → Base d n t₀ n s → Phased d n t₀ n (each (phases d n) (up_from 0 n) s)
  phases_law s b = subst (λ (x : ℕ). Phased d n t₀ x (each (phases d n) (up_from 0 n) s)) (omega arith)
      (each_law (Phased d n t₀) (phases d n) 0 n s (record { base = b; x_none = λ k l. absurd (not-suc-le-zero l); z_none = λ k l. absurd (not-suc-le-zero l) })
      (λ j s' l m h. phased_step j s' (omega arith) h))

-- ---- the units
module _ {d n : ℕ} {t₀ : List Pauli} {s : State} (h : Phased d n t₀ n s) where
  low : (j : ℕ) → j < n → col n s j ≡ unit_x n j
  low j l =
      let x = h.base.done_x j l in
      let r = col_range h.base.reached j in
      pauli_path (h.x_none j l) (all_single n j 1 (col n s j).v l r.v_length x.v_one x.v_rest) (all_zero n (col n s j).w r.w_length x.w_all)

  high : (j : ℕ) → j < n → col n s (n + j) ≡ unit_z n j
  high j l =
      let x = h.base.done_z j l in
      let r = col_range h.base.reached (n + j) in
      pauli_path (h.z_none j l) (all_zero n (col n s (n + j)).v r.v_length x.v_all) (all_single n j 1 (col n s (n + j)).w l r.w_length x.w_one x.w_rest)

  pub phased_units : s.tableau ≡ units n
  phased_units = ext_get_or (phase_only n 0) s.tableau (units n) (h.base.reached.formed.columns ∙ sym (length_units n))
      (λ j l. at j (bound j l) ∙ sym (column_units n j (bound j l)))
    where
      bound : (j : ℕ) → j < length s.tableau → j < 2 * n
      bound j l = omega (arith, h.base.reached.formed.columns)

      at : (j : ℕ) → j < 2 * n → col n s j ≡ unit n j
      at j l = unit_case (λ p. col n s j ≡ p) n j (λ m. low j m) (λ m. ap (col n s) (omega arith) ∙ high (j - n) (omega arith))
