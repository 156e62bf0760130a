-- The second half of a stage: column n + t becomes unit n + t up to phase, and column t stays unit t up to phase. Then the stages.
use mathlib.Core.Path.{◌≡◌, sym, ◌∙◌, ap, subst}
use mathlib.Core.Bool.{Bool, cond}
use mathlib.Core.List.{List, [], ◌∷◌}
use Prim.Native.Nat.{ℕ, zero, suc, ◌+◌, ◌*◌, ◌-◌, ◌%◌, ◌≤◌, ◌<◌}
use native.Mathlib.Nat.{mod-lt}
use native.Mathlib.Omega.{arith}
use lib.Dec.{T, eqb, eqb→eq}
use Rattle.arith.proofs.Cases.{by_eq, and_l, and_r, bool_case}
use Rattle.arith.proofs.Cong.{Cong, cong_of_eq, cong_trans, cong_eq}
use Rattle.arith.specs.Residues.{neg}
use Rattle.arith.proofs.Ring.{ring₁, ring₁_by, times, ◌also◌, quote}
use Rattle.arith.proofs.Remainders.{mod_of}
use Rattle.pauli.specs.Pauli.{Pauli}
use Rattle.pauli.proofs.Ranges.{w_less}
use Rattle.gates.specs.Row.{F}
use Rattle.tableau.specs.Tableau.{up_from}
use Rattle.synthesis.specs.Inner.Reduce.{State, put, each, later, onward, straighten, clear_partner_w, clear_partner_v, shear_partner, no_v, first_column, partner_straightened, partner_turned, second_column, stage}
use Rattle.synthesis.proofs.Entries.{IsX, IsZ, v_of, w_of, local_s, local_f, local_f3, x_after_a, z_after_a, z_after_s, x_after_local, x_to_z, z_to_x, comm_x_l}
use Rattle.synthesis.proofs.Steps.{Base, col, col_range, put_s_lem, put_a_lem, put_f, put_f3, locally, base_a, base_local, second_before, pair, each_law}
use Rattle.synthesis.proofs.Straighten.{straighten_law}
use Rattle.synthesis.proofs.FirstColumn.{FirstDone, first_law, later_law, one_more, is_z, minus_minus}

-- ---- numbers
partner_one : (d x : ℕ) → 1 < d → x < d → Cong d x (neg d (d - 1)) → x ≡ 1
partner_one d x l m h = cong_eq (cong_trans h (go d (omega arith))) m l
  where
    go : (d : ℕ) → 1 ≤ d → Cong d (neg d (d - 1)) 1
    go d p = ring₁ d [] p (search quote depth 30) (search quote depth 30) tt

clear_partner_w_lem : (d w x : ℕ) → 0 < d → x ≡ 1 → (w + neg d (w % d * x)) % d ≡ 0
clear_partner_w_lem d w x p h = mod_of (w + neg d (w % d * x)) (ring₁_by d (w ∷ x ∷ []) p (times {z = neg d w} (search quote) (search quote) (search quote) (cong_of_eq h)) (search quote depth 30) (search quote depth 30) tt) p

clear_partner_v_lem : (d v x : ℕ) → 0 < d → Cong d x (neg d 1) → (v + v % d * x) % d ≡ 0
clear_partner_v_lem d v x p h = mod_of (v + v % d * x) (ring₁_by d (v ∷ x ∷ []) p (times {z = v} (search quote) (search quote) (search quote) h) (search quote depth 30) (search quote depth 30) tt) p

shear_partner_w : (d w x : ℕ) → 0 < d → Cong d x (neg d 1) → (w + w * x) % d ≡ 0
shear_partner_w d w x p h = mod_of (w + w * x) (ring₁_by d (w ∷ x ∷ []) p (times {z = w} (search quote) (search quote) (search quote) h) (search quote depth 30) (search quote depth 30) tt) p

turned : (d x y : ℕ) → 0 < d → x ≡ 1 → y ≡ neg d x % d → Cong d y (neg d 1)
turned d x y p h e = ring₁_by d (x ∷ y ∷ []) p
    (times {z = 1} (search quote) (search quote) (search quote depth 30) (cong_of_eq e) also times {z = neg d 1} (search quote) (search quote) (search quote) (cong_of_eq h))
    (search quote depth 30) (search quote depth 30) tt

-- the test that v is 0 at k, k + 1, .., m of them
no_v_lem : (p : Pauli) (k m : ℕ) → T (no_v p (up_from k m)) → (i : ℕ) → k ≤ i → i < k + m → v_of p i ≡ 0
no_v_lem p k zero h i l u = absurd (omega arith)
no_v_lem p k (suc m) h i l u = by_eq i k
    (λ e. ap (v_of p) e ∙ eqb→eq (v_of p k) 0 (and_l (eqb (v_of p k) 0) (no_v p (up_from (suc k) m)) h))
    (λ ne. no_v_lem p (suc k) m (and_r (eqb (v_of p k) 0) (no_v p (up_from (suc k) m)) h) i (omega arith) (omega arith))

-- ---- the loops, each with what holds before its turn j
pub record PartnerW (d n : ℕ) (t₀ : List Pauli) (t j : ℕ) (s : State) : Type 0 where
  pub base : Base d n t₀ t s
  pub column_is_x : IsX t (col n s t)
  pub w_one : w_of (col n s (n + t)) t ≡ 1
  pub w_none : (i : ℕ) → t < i → i < j → w_of (col n s (n + t)) i ≡ 0

-- v is 0 at every later qudit
pub record PartnerA (d n : ℕ) (t₀ : List Pauli) (t j : ℕ) (s : State) : Type 0 where
  pub straight : PartnerW d n t₀ t j s
  pub v_none : (i : ℕ) → t < i → i < n → v_of (col n s (n + t)) i ≡ 0

pub record PartnerV (d n : ℕ) (t₀ : List Pauli) (t j : ℕ) (s : State) : Type 0 where
  pub base : Base d n t₀ t s
  pub column_is_z : IsZ t (col n s t)
  pub v_minus : Cong d (v_of (col n s (n + t)) t) (neg d 1)
  pub w_none : (i : ℕ) → t < i → i < n → w_of (col n s (n + t)) i ≡ 0
  pub v_none : (i : ℕ) → t < i → i < j → v_of (col n s (n + t)) i ≡ 0

record PartnerSheared (d n : ℕ) (t₀ : List Pauli) (t : ℕ) (s : State) : Type 0 where
  base : Base d n t₀ t s
  column_is_z : IsZ t (col n s t)
  v_minus : Cong d (v_of (col n s (n + t)) t) (neg d 1)
  w_zero : w_of (col n s (n + t)) t ≡ 0
  w_none : (i : ℕ) → t < i → i < n → w_of (col n s (n + t)) i ≡ 0
  v_none : (i : ℕ) → t < i → i < n → v_of (col n s (n + t)) i ≡ 0

module _ {d n : ℕ} (one : 1 < d) {t₀ : List Pauli} {t : ℕ} (tn : t < n) where
  pub partner_start : (s : State) → FirstDone d n t₀ t s → PartnerW d n t₀ t (suc t) s
  partner_start s h = record {
    base = h.base;
    column_is_x = h.column_is_x;
    w_one = partner_one d (w_of (col n s (n + t)) t) one (w_less (col_range h.base.reached (n + t)) t)
        (comm_x_l (omega arith) (col n s t) (col n s (n + t)) h.column_is_x (pair h.base tn));
    w_none = λ i ti l. absurd (omega arith);
  }

  partner_a_step : (j : ℕ) (s : State) → t < j → j < n → PartnerA d n t₀ t j s → PartnerA d n t₀ t (suc j) (clear_partner_w d n t j s)
  partner_a_step j s tj jn x =
      let h = x.straight in
      let p = col n s (n + t) in
      let st = put_a_lem h.base.reached j t (w_of p j % d) jn tn (λ (e : j ≡ t). omega arith) (mod-lt (w_of p j) (omega arith)) in
      let a = st.after (n + t) in
      let q = col n (clear_partner_w d n t j s) (n + t) in
      record {
        straight = record {
          base = base_a h.base (omega arith) (omega arith) st;
          column_is_x = x_after_a (col_range h.base.reached t) h.column_is_x (st.after t) (λ (e : j ≡ t). omega arith);
          w_one = a.w_kept t (λ (e : t ≡ j). omega arith) ∙ h.w_one;
          w_none = λ i ti ij. one_more i j ij
              (λ e. ap (w_of q) e ∙ a.w_becomes ∙ clear_partner_w_lem d (w_of p j) (w_of p t) (omega arith) h.w_one)
              (λ ne l. a.w_kept i ne ∙ h.w_none i ti l);
        };
        v_none = λ i ti l. a.v_kept i (λ (e : i ≡ t). omega arith) ∙ x.v_none i ti l;
      }

  pub partner_w_step : (j : ℕ) (s : State) → t < j → j < n → PartnerW d n t₀ t j s → PartnerW d n t₀ t (suc j) (straighten d n (n + t) j s)
  partner_w_step j s tj jn h =
      let st = straighten_law (n + t) j jn h.base.reached in
      let a = st.effect.after (n + t) in
      let q = col n (straighten d n (n + t) j s) (n + t) in
      record {
        base = base_local h.base (omega arith) st.effect;
        column_is_x = x_after_local (st.effect.after t) (λ (e : j ≡ t). omega arith) h.column_is_x;
        w_one = a.w_kept t (λ (e : t ≡ j). omega arith) ∙ h.w_one;
        w_none = λ i ti ij. one_more i j ij (λ e. ap (w_of q) e ∙ st.w_none) (λ ne l. a.w_kept i ne ∙ h.w_none i ti l);
      }

  pub partner_turn : (s : State) → PartnerW d n t₀ t n s → PartnerV d n t₀ t (suc t) (put d (F t 1) s)
  partner_turn s h =
      let p = col n s (n + t) in
      let st = put_f h.base.reached t tn in
      let a = st.after (n + t) in
      let q = col n (put d (F t 1) s) (n + t) in
      record {
        base = base_local h.base (omega arith) (locally h.base.reached st (λ p q r z. local_f r z));
        column_is_z = x_to_z (col_range h.base.reached t) h.column_is_x (st.after t);
        v_minus = turned d (w_of p t) (v_of q t) (omega arith) h.w_one a.v_becomes;
        w_none = λ i ti l. a.w_kept i (λ (e : i ≡ t). omega arith) ∙ h.w_none i ti l;
        v_none = λ i ti l. absurd (omega arith);
      }

  pub partner_v_step : (j : ℕ) (s : State) → t < j → j < n → PartnerV d n t₀ t j s → PartnerV d n t₀ t (suc j) (clear_partner_v d n t j s)
  partner_v_step j s tj jn h =
      let p = col n s (n + t) in
      let st = put_a_lem h.base.reached t j (v_of p j % d) tn jn (λ (e : t ≡ j). omega arith) (mod-lt (v_of p j) (omega arith)) in
      let a = st.after (n + t) in
      let q = col n (clear_partner_v d n t j s) (n + t) in
      record {
        base = base_a h.base (omega arith) (omega arith) st;
        column_is_z = z_after_a (col_range h.base.reached t) h.column_is_z (st.after t) (λ (e : j ≡ t). omega arith);
        v_minus = cong_trans (cong_of_eq (a.v_kept t (λ (e : t ≡ j). omega arith))) h.v_minus;
        w_none = λ i ti l. a.w_kept i (λ (e : i ≡ t). omega arith) ∙ h.w_none i ti l;
        v_none = λ i ti ij. one_more i j ij
            (λ e. ap (v_of q) e ∙ a.v_becomes ∙ clear_partner_v_lem d (v_of p j) (v_of p t) (omega arith) h.v_minus)
            (λ ne l. a.v_kept i ne ∙ h.v_none i ti l);
      }

  partner_shear : (s : State) → PartnerV d n t₀ t n s → PartnerSheared d n t₀ t (shear_partner d n t s)
  partner_shear s h =
      let p = col n s (n + t) in
      let st = put_s_lem h.base.reached t (w_of p t) tn in
      let a = st.after (n + t) in
      record {
        base = base_local h.base (omega arith) (locally h.base.reached st (λ p q r z. local_s r z));
        column_is_z = z_after_s (col_range h.base.reached t) h.column_is_z (st.after t);
        v_minus = cong_trans (cong_of_eq (a.v_kept t)) h.v_minus;
        w_zero = a.w_becomes ∙ shear_partner_w d (w_of p t) (v_of p t) (omega arith) h.v_minus;
        w_none = λ i ti l. a.w_kept i (λ (e : i ≡ t). omega arith) ∙ h.w_none i ti l;
        v_none = λ i ti l. a.v_kept i ∙ h.v_none i ti l;
      }

  -- both columns of t are done
  both_done : (s : State) → Base d n t₀ t s → IsX t (col n s t) → IsZ t (col n s (n + t)) → Base d n t₀ (suc t) s
  both_done s b x z = record {
    reached = b.reached;
    in_time = tn;
    done_x = λ k l. one_more k t l (λ e. subst (λ (y : ℕ). IsX y (col n s y)) (sym e) x) (λ ne m. b.done_x k m);
    done_z = λ k l. one_more k t l (λ e. subst (λ (y : ℕ). IsZ y (col n s (n + y))) (sym e) z) (λ ne m. b.done_z k m);
  }

  back_step : (s : State) → PartnerSheared d n t₀ t s → Base d n t₀ (suc t) (put d (F t 3) s)
  back_step s h =
      let p = col n s (n + t) in
      let st = put_f3 h.base.reached t tn in
      let a = st.after (n + t) in
      let b = base_local h.base (omega arith) (locally h.base.reached st (λ p q r z. local_f3 r z)) in
      both_done (put d (F t 3) s) b
      (z_to_x (col_range h.base.reached t) h.column_is_z (st.after t))
      (is_z (col_range b.reached (n + t)) (second_before b tn)
      (a.w_becomes ∙ minus_minus d (v_of p t) one h.v_minus)
      (a.v_becomes ∙ h.w_zero)
      (λ i ti l. a.w_kept i (λ (e : i ≡ t). omega arith) ∙ h.w_none i ti l)
      (λ i ti l. a.v_kept i (λ (e : i ≡ t). omega arith) ∙ h.v_none i ti l))

  turned_law : (s : State) → PartnerW d n t₀ t n s → Base d n t₀ (suc t) (partner_turned d n t s)
  unfolding partner_turned
  turned_law s h =
      let s1 = put d (F t 1) s in
      let h1 = later_law (PartnerV d n t₀ t) (clear_partner_v d n t) d n t s1 tn (partner_turn s h) partner_v_step in
      let s2 = each (clear_partner_v d n t) (later d n t) s1 in
      back_step (shear_partner d n t s2) (partner_shear s2 h1)

  -- no v: the column is a unit already
  idle_law : (s : State) → PartnerW d n t₀ t n s → T (no_v (col n s (n + t)) (onward d n t)) → Base d n t₀ (suc t) s
  idle_law s h e =
      let none = no_v_lem (col n s (n + t)) t (n - t) e in
      both_done s h.base h.column_is_x
      (is_z (col_range h.base.reached (n + t)) (second_before h.base tn) h.w_one (none t (omega arith) (omega arith)) h.w_none (λ i ti l. none i (omega arith) (omega arith)))

  second_law : (s : State) → PartnerW d n t₀ t n s → Base d n t₀ (suc t) (second_column d n t s)
  unfolding second_column
  second_law s h = bool_case (λ (b : Bool). Base d n t₀ (suc t) (cond b s (partner_turned d n t s))) (no_v (col n s (n + t)) (onward d n t))
      (λ e. idle_law s h e) (λ e. turned_law s h)

  pub partner_a_law : (s : State) → FirstDone d n t₀ t s → T (no_v (col n s (n + t)) (later d n t)) → PartnerA d n t₀ t n (each (clear_partner_w d n t) (later d n t) s)
  partner_a_law s h e = later_law (PartnerA d n t₀ t) (clear_partner_w d n t) d n t s tn
      (record { straight = partner_start s h; v_none = λ i ti l. no_v_lem (col n s (n + t)) (suc t) (n - suc t) e i ti (omega arith) }) partner_a_step

  pub partner_law : (s : State) → FirstDone d n t₀ t s → PartnerW d n t₀ t n (partner_straightened d n t s)
  unfolding partner_straightened
  partner_law s h =
      let each_a = each (clear_partner_w d n t) (later d n t) s in
      let each_s = each (straighten d n (n + t)) (later d n t) s in
      bool_case (λ (b : Bool). PartnerW d n t₀ t n (cond b each_a each_s)) (no_v (col n s (n + t)) (later d n t))
      (λ e. (partner_a_law s h e).straight) (λ e. later_law (PartnerW d n t₀ t) (straighten d n (n + t)) d n t s tn (partner_start s h) partner_w_step)

  pub stage_law : (s : State) → Base d n t₀ t s → Base d n t₀ (suc t) (stage d n t s)
  unfolding stage
  stage_law s b =
      let s1 = first_column d n t s in
      second_law (partner_straightened d n t s1) (partner_law s1 (first_law one tn s b))

module _ {d n : ℕ} (one : 1 < d) {t₀ : List Pauli} where
  -- after the stages before j
  pub stages_law : (s : State) → Base d n t₀ 0 s → (j : ℕ) → j ≤ n → Base d n t₀ j (each (stage d n) (up_from 0 j) s)
  stages_law s b j jn = subst (λ (x : ℕ). Base d n t₀ x (each (stage d n) (up_from 0 j) s)) (omega arith)
      (each_law (Base d n t₀) (stage d n) 0 j s b (λ i s' l m h. stage_law one (omega arith) s' h))
