-- The first half of a stage: column t becomes unit t up to phase.
use mathlib.Core.Path.{◌≡◌, refl, sym, ◌∙◌, ap, subst}
use mathlib.Core.List.{List, [], ◌∷◌}
use mathlib.Core.Logic.{◌≢◌}
use Prim.Native.Nat.{ℕ, suc, ◌+◌, ◌*◌, ◌-◌, ◌%◌, ◌≤◌, ◌<◌}
use native.Mathlib.Nat.{mod-lt}
use native.Mathlib.Omega.{arith}
use lib.ListN.{get_or-eq_default}
use Rattle.arith.proofs.Cases.{by_less, by_eq}
use Rattle.arith.proofs.Cong.{Cong, cong_of_eq}
use Rattle.arith.specs.Residues.{neg}
use Rattle.arith.proofs.Ring.{ring₁_by, times, quote}
use Rattle.arith.proofs.Remainders.{mod_of}
use Rattle.arith.proofs.Divides.{Dvd, dvd_zero, dvd_trans, dvd_as, dvd_resp, dvd_rest, dvd_one}
use Rattle.arith.specs.Gcd.{gcd}
use Rattle.arith.proofs.Gcd.{gcd_left, gcd_right, gcd_greatest}
use Rattle.arith.specs.Units.{IsUnit, least_multiplier, inverse_of}
use Rattle.arith.proofs.Units.{least_below, least_gcd, inverse_below, inverse_pos, inverse_unit, scaled_one}
use Rattle.pauli.specs.Pauli.{Pauli, InRange, dot}
use Rattle.pauli.proofs.Dots.{dvd_dot}
use Rattle.synthesis.specs.Inner.Reduce.{State, v_at, each, later, onward, minus, straighten, gather, scale, clear_v, gathered, first_column}
use Rattle.synthesis.proofs.Entries.{IsX, IsZ, v_of, w_of, local_m, w_after_a}
use Rattle.synthesis.proofs.Steps.{Base, ZeroBefore, col, col_range, put_a_lem, put_m_lem, locally, base_a, base_local, first_before, pair, each_law}
use Rattle.synthesis.proofs.Straighten.{straighten_law, gathered_from}

-- ---- numbers
-- x − y ≡ −1
minus_one : (d x y : ℕ) → 1 ≤ d → (x + neg d y) % d ≡ d - 1 → Cong d y (x + 1)
minus_one d x y p e = ring₁_by d (x ∷ y ∷ []) p (times {z = neg d 1} (search quote) (search quote depth 30) (search quote depth 30) (cong_of_eq e)) (search quote depth 30) (search quote depth 30) tt

divides_one : (d x y g : ℕ) → 1 ≤ d → (x + neg d y) % d ≡ d - 1 → Dvd g d → Dvd g x → Dvd g y → g ≡ 1
divides_one d x y g p e gd gx gy = dvd_one (dvd_rest x 1 (dvd_resp gd (minus_one d x y p e) gy) gx)

clear_v_lem : (d v x : ℕ) → 0 < d → x ≡ 1 → (v + neg d v % d * x) % d ≡ 0
clear_v_lem d v x p h = mod_of (v + neg d v % d * x) (ring₁_by d (v ∷ x ∷ []) p (times {z = neg d v} (search quote) (search quote) (search quote) (cong_of_eq h)) (search quote depth 30) (search quote depth 30) tt) p

pub minus_minus : (d x : ℕ) → 1 < d → Cong d x (neg d 1) → neg d x % d ≡ 1
minus_minus d x l h = mod_of (neg d x) (ring₁_by d (x ∷ []) (omega arith) (times {z = neg d 1} (search quote) (search quote) (search quote) h) (search quote depth 30) (search quote depth 30) tt) l

-- ---- a Pauli by regions of qudits
region : {P : Type 0} (t n i : ℕ) → (i < t → P) → (t ≤ i → i < n → P) → (n ≤ i → P) → P
region t n i f g h = by_less i t f (λ l. by_less i n (λ m. g l m) h)

up : (t i : ℕ) → i ≢ t → t ≤ i → t < i
up t i ne l = omega arith

module _ {d n t : ℕ} {p : Pauli} (r : InRange d n p) (z : ZeroBefore t p) where
  v_region : (Q : ℕ → Type 0) (i : ℕ) → Q 0 → (t ≤ i → i < n → Q (v_of p i)) → Q (v_of p i)
  v_region Q i q0 f = region t n i
      (λ l. subst Q (sym (z.v_none i l)) q0) f (λ l. subst Q (sym (get_or-eq_default p.v 0 {n = i} (omega (arith, r.v_length)))) q0)

  w_region : (Q : ℕ → Type 0) (i : ℕ) → Q 0 → (t ≤ i → i < n → Q (w_of p i)) → Q (w_of p i)
  w_region Q i q0 f = region t n i
      (λ l. subst Q (sym (z.w_none i l)) q0) f (λ l. subst Q (sym (get_or-eq_default p.w 0 {n = i} (omega (arith, r.w_length)))) q0)

  is_x : v_of p t ≡ 1 → ((i : ℕ) → t < i → i < n → v_of p i ≡ 0) → ((i : ℕ) → t ≤ i → i < n → w_of p i ≡ 0) → IsX t p
  is_x a f g = record {
    v_one = a;
    v_rest = λ i ne. v_region (λ (y : ℕ). y ≡ 0) i refl (λ l m. f i (up t i ne l) m);
    w_all = λ i. w_region (λ (y : ℕ). y ≡ 0) i refl (λ l m. g i l m);
  }

  pub is_z : w_of p t ≡ 1 → v_of p t ≡ 0 → ((i : ℕ) → t < i → i < n → w_of p i ≡ 0) → ((i : ℕ) → t < i → i < n → v_of p i ≡ 0) → IsZ t p
  is_z a b f g = record {
    w_one = a;
    w_rest = λ i ne. w_region (λ (y : ℕ). y ≡ 0) i refl (λ l m. f i (up t i ne l) m);
    v_all = λ i. by_eq i t (λ e. ap (v_of p) e ∙ b) (λ ne. v_region (λ (y : ℕ). y ≡ 0) i refl (λ l m. g i (up t i ne l) m));
  }

-- ---- the loops, each with what holds before its turn j
pub record Straight (d n : ℕ) (t₀ : List Pauli) (t j : ℕ) (s : State) : Type 0 where
  pub base : Base d n t₀ t s
  pub w_none : (i : ℕ) → t ≤ i → i < j → w_of (col n s t) i ≡ 0

record Gathering (d n : ℕ) (t₀ : List Pauli) (t j : ℕ) (s : State) : Type 0 where
  base : Base d n t₀ t s
  w_none : (i : ℕ) → t ≤ i → i < n → w_of (col n s t) i ≡ 0
  v_all : (i : ℕ) → t ≤ i → i < j → Dvd (gcd (v_of (col n s t) t) d) (v_of (col n s t) i)

record Clearing (d n : ℕ) (t₀ : List Pauli) (t j : ℕ) (s : State) : Type 0 where
  base : Base d n t₀ t s
  w_none : (i : ℕ) → t ≤ i → i < n → w_of (col n s t) i ≡ 0
  v_one : v_of (col n s t) t ≡ 1
  v_none : (i : ℕ) → t < i → i < j → v_of (col n s t) i ≡ 0

pub record FirstDone (d n : ℕ) (t₀ : List Pauli) (t : ℕ) (s : State) : Type 0 where
  pub base : Base d n t₀ t s
  pub column_is_x : IsX t (col n s t)

-- one more index: at j, or before
pub one_more : {P : Type 0} (i j : ℕ) → i < suc j → (i ≡ j → P) → (i ≢ j → i < j → P) → P
one_more i j l f g = by_eq i j f (λ ne. g ne (below ne))
  where
    below : i ≢ j → i < j
    below ne = omega arith

-- the loop over the later qudits ends at n
pub later_law : (P : ℕ → State → Type 0) (f : ℕ → State → State) (d n t : ℕ) (s : State) → t < n → P (suc t) s
    → ((j : ℕ) (s : State) → t < j → j < n → P j s → P (suc j) (f j s)) → P n (each f (later d n t) s)
later_law P f d n t s tn h step = subst (λ (x : ℕ). P x (each f (later d n t) s)) (omega arith) (each_law P f (suc t) (n - suc t) s h (λ j s' l m. step j s' l (omega arith)))

module _ {d n : ℕ} (one : 1 < d) {t₀ : List Pauli} {t : ℕ} (tn : t < n) where
  pub straight_step : (j : ℕ) (s : State) → t ≤ j → j < n → Straight d n t₀ t j s → Straight d n t₀ t (suc j) (straighten d n t j s)
  straight_step j s tj jn h =
      let st = straighten_law t j jn h.base.reached in
      let q = col n (straighten d n t j s) t in
      record {
        base = base_local h.base tj st.effect;
        w_none = λ i ti ij. one_more i j ij (λ e. ap (w_of q) e ∙ st.w_none) (λ ne l. (st.effect.after t).w_kept i ne ∙ h.w_none i ti l);
      }

  straightened_law : (s : State) → Base d n t₀ t s → Straight d n t₀ t n (each (straighten d n t) (onward d n t) s)
  straightened_law s b = subst (λ (x : ℕ). Straight d n t₀ t x (each (straighten d n t) (onward d n t) s)) (omega arith)
      (each_law (Straight d n t₀ t) (straighten d n t) t (n - t) s (record { base = b; w_none = λ i l m. absurd (omega arith) }) (λ j s' l m. straight_step j s' l (omega arith)))

  gather_step : (j : ℕ) (s : State) → t < j → j < n → Gathering d n t₀ t j s → Gathering d n t₀ t (suc j) (gather d n t j s)
  gather_step j s tj jn h =
      let p = col n s t in
      let m = least_multiplier d (v_of p t) (v_of p j) in
      let st = put_a_lem h.base.reached j t m jn tn (λ (e : j ≡ t). omega arith) (least_below d (v_of p t) (v_of p j) (omega arith)) in
      let a = st.after t in
      let q = col n (gather d n t j s) t in
      let g = gathered_from d (v_of p t) (v_of p j) m (v_of q t) (least_gcd d (v_of p t) (v_of p j) (omega arith)) a.v_becomes in
      record {
        base = base_a h.base (omega arith) (omega arith) st;
        w_none = λ i ti l. w_after_a (col_range h.base.reached t) a (h.w_none t (omega arith) tn) i ∙ h.w_none i ti l;
        v_all = λ i ti ij. by_eq i t
            (λ e. dvd_as (ap (v_of q) (sym e)) (gcd_left (v_of q t) d))
            (λ nt. dvd_as (sym (a.v_kept i nt)) (one_more i j ij
            (λ e. dvd_as (ap (v_of p) (sym e)) g.second)
            (λ ne l. dvd_trans (gcd_greatest g.first (gcd_right (v_of q t) d)) (h.v_all i ti l))));
      }

  gather_start : (s : State) → Straight d n t₀ t n s → Gathering d n t₀ t (suc t) s
  gather_start s h = record {
    base = h.base;
    w_none = h.w_none;
    v_all = λ i l m. dvd_as (ap (v_of (col n s t)) (omega arith)) (gcd_left (v_of (col n s t) t) d);
  }

  -- v_t is a unit, as its gcd with d divides the column and so its pairing with its partner
  v_unit : {s : State} → Gathering d n t₀ t n s → gcd (v_of (col n s t) t) d ≡ 1
  v_unit {s} h =
      let p = col n s t in
      let q = col n s (n + t) in
      let g = gcd (v_of p t) d in
      let r = col_range h.base.reached t in
      let z = first_before h.base tn in
      divides_one d (dot p.w q.v) (dot p.v q.w) g (omega arith) (pair h.base tn) (gcd_right (v_of p t) d)
      (dvd_dot p.w q.v (λ i. w_region r z (λ (y : ℕ). Dvd g y) i (dvd_zero g) (λ l m. dvd_as (sym (h.w_none i l m)) (dvd_zero g))))
      (dvd_dot p.v q.w (λ i. v_region r z (λ (y : ℕ). Dvd g y) i (dvd_zero g) (λ l m. h.v_all i l m)))

  scale_step : (s : State) → Gathering d n t₀ t n s → Clearing d n t₀ t (suc t) (scale d n t s)
  scale_step s h =
      let p = col n s t in
      let u = v_unit h in
      let k = inverse_of d (v_of p t) in
      let st = put_m_lem h.base.reached t k tn (inverse_pos d (v_of p t) one u) (inverse_below d (v_of p t) one u) (inverse_unit d (v_of p t) one u) in
      let a = st.after t in
      let q = col n (scale d n t s) t in
      record {
        base = base_local h.base (omega arith) (locally h.base.reached st (λ x y r c. local_m r c));
        w_none = λ i ti l. by_eq i t (λ e. ap (w_of q) e ∙ a.w_zero (h.w_none t (omega arith) tn)) (λ ne. a.w_kept i ne ∙ h.w_none i ti l);
        v_one = a.v_becomes ∙ scaled_one d (v_of p t) one u;
        v_none = λ i ti l. absurd (omega arith);
      }

  clear_step : (j : ℕ) (s : State) → t < j → j < n → Clearing d n t₀ t j s → Clearing d n t₀ t (suc j) (clear_v d n t j s)
  clear_step j s tj jn h =
      let p = col n s t in
      let st = put_a_lem h.base.reached t j (minus d (v_of p j)) tn jn (λ (e : t ≡ j). omega arith) (mod-lt (neg d (v_of p j)) (omega arith)) in
      let a = st.after t in
      let q = col n (clear_v d n t j s) t in
      record {
        base = base_a h.base (omega arith) (omega arith) st;
        w_none = λ i ti l. w_after_a (col_range h.base.reached t) a (h.w_none j (omega arith) jn) i ∙ h.w_none i ti l;
        v_one = a.v_kept t (λ (e : t ≡ j). omega arith) ∙ h.v_one;
        v_none = λ i ti ij. one_more i j ij
            (λ e. ap (v_of q) e ∙ a.v_becomes ∙ clear_v_lem d (v_of p j) (v_of p t) (omega arith) h.v_one)
            (λ ne l. a.v_kept i ne ∙ h.v_none i ti l);
      }

  cleared : (s : State) → Clearing d n t₀ t n s → FirstDone d n t₀ t s
  cleared s h = record { base = h.base; column_is_x = is_x (col_range h.base.reached t) (first_before h.base tn) h.v_one h.v_none h.w_none }

  gathered_law : (s : State) → Base d n t₀ t s → Gathering d n t₀ t n (gathered d n t s)
  unfolding gathered
  gathered_law s b = let s1 = each (straighten d n t) (onward d n t) s in later_law (Gathering d n t₀ t) (gather d n t) d n t s1 tn (gather_start s1 (straightened_law s b)) gather_step

  -- the number that M inverts is a unit
  pub pivot_unit : (s : State) → Base d n t₀ t s → IsUnit d (v_at n (gathered d n t s) t t)
  pivot_unit s b = v_unit (gathered_law s b)

  pub first_law : (s : State) → Base d n t₀ t s → FirstDone d n t₀ t (first_column d n t s)
  unfolding first_column
  first_law s b =
      let s2 = gathered d n t s in
      let h3 = later_law (Clearing d n t₀ t) (clear_v d n t) d n t (scale d n t s2) tn (scale_step s2 (gathered_law s b)) clear_step in
      cleared (each (clear_v d n t) (later d n t) (scale d n t s2)) h3
