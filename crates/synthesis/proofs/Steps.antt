-- The steps of the reduction: each keeps what is reached, changes the entries of every column as its row does, and leaves finished columns finished.
use mathlib.Core.Bool.{cond}
use mathlib.Core.Path.{◌≡◌, refl, sym, ◌∙◌, ap, subst}
use mathlib.Core.List.{List, []}
use mathlib.Core.Logic.{◌≢◌}
use Prim.Native.Nat.{ℕ, zero, suc, ◌+◌, ◌*◌, ◌-◌, ◌%◌, ◌≤◌, ◌<◌}
use native.Mathlib.Nat.{mod-lt}
use native.Mathlib.Omega.{arith}
use Rattle.arith.proofs.Cases.{eqb_case, ltb_case}
use Rattle.arith.proofs.Cong.{Cong, cong_intro, cong_of_eq, cong_eq, cong_trans, cong_sym, cong_refl, cong_add, cong_mul, cong_mod}
use Rattle.arith.specs.Residues.{neg}
use Rattle.arith.proofs.Ring.{ring₁, quote}
use Rattle.arith.specs.Gcd.{gcd}
use Rattle.arith.proofs.Remainders.{idle}
use Rattle.pauli.specs.Pauli.{Pauli, InRange, comm}
use Rattle.pauli.proofs.Ranges.{v_less, d_pos, w_less}
use Rattle.gates.specs.Row.{Row, F, S, A, M, Legal, apply}
use Rattle.gates.proofs.Rows.{row_hom}
use Rattle.tableau.specs.Tableau.{column, up_from, paired}
use Rattle.tableau.proofs.Columns.{column_range, column_map}
use Rattle.synthesis.specs.Inner.Reduce.{State, put, near_power, put_s, put_a, put_m, each}
use Rattle.synthesis.proofs.Reached.{Reached, put_reached, choose_case}
use Rattle.synthesis.proofs.Entries.{AfterS, AfterA, AfterM, AfterF, AfterF3, Local, IsX, IsZ, v_of, w_of, after_s, after_a, after_a_none, after_m, after_m_none, after_f, after_f3, local_then, x_after_local, z_after_local, x_after_a, z_after_a, comm_x_l, comm_z_l, comm_z_r}

-- ---- the power of S that is nearer to 0
near_case : (P : ℕ → Type 0) (d k : ℕ) → (d ≤ 2 * k → P (k + d)) → (2 * k < d → P k) → P (near_power d k)
unfolding near_power
near_case P d k f g = ltb_case (λ b. P (cond b k (k + d))) (2 * k) d g f

module _ (d k : ℕ) where
  near_cong : Cong d (near_power d k) k
  near_cong = near_case (λ x. Cong d x k) d k (λ l. cong_intro 0 1 (omega arith)) (λ l. cong_refl k)

  pub near_low : 1 ≤ k → 1 ≤ near_power d k
  near_low h = near_case (λ x. 1 ≤ x) d k (λ l. omega arith) (λ l. h)

  pub near_high : k < d → near_power d k ≤ 2 * d - 1
  near_high h = near_case (λ x. x ≤ 2 * d - 1) d k (λ l. omega arith) (λ l. omega arith)

  pub near_not : k < d → 1 ≤ k → near_power d k ≢ d
  near_not h l = near_case (λ x. x ≢ d) d k (λ m e. omega arith) (λ m e. omega arith)

  pub near_below : 2 * k < d → near_power d k ≡ k
  near_below h = near_case (λ x. x ≡ k) d k (λ l. absurd (omega arith)) (λ l. refl)

  pub near_above : d ≤ 2 * k → near_power d k ≡ k + d
  near_above h = near_case (λ x. x ≡ k + d) d k (λ l. refl) (λ l. absurd (omega arith))

-- ---- steps
abbrev pub col : ℕ → State → ℕ → Pauli
col n s c = column n s.tableau c

-- from s to s' each column changes as `After` says
pub record Effect (d n : ℕ) (t₀ : List Pauli) (After : Pauli → Pauli → Type 0) (s s' : State) : Type 0 where
  pub reached : Reached d n t₀ s'
  pub after : (c : ℕ) → After (col n s c) (col n s' c)

module _ {d n : ℕ} {t₀ : List Pauli} {s : State} (h : Reached d n t₀ s) where
  pub col_range : (c : ℕ) → InRange d n (col n s c)
  col_range c = column_range c (omega (arith, h.large)) h.formed.ranges

  pub put_step : (After : Pauli → Pauli → Type 0) (r : Row) → Legal d n r → ((p : Pauli) → InRange d n p → After p (apply d r p)) → Effect d n t₀ After s (put d r s)
  put_step After r l f = record {
    reached = put_reached r l h;
    after = λ c. subst (λ (q : Pauli). After (col n s c) q) (sym (column_map (omega (arith, h.large)) (row_hom r h.large l) s.tableau c)) (f (col n s c) (col_range c));
  }

  pub none_step : (After : Pauli → Pauli → Type 0) → ((p : Pauli) → InRange d n p → After p p) → Effect d n t₀ After s s
  none_step After f = record { reached = h; after = λ c. f (col n s c) (col_range c) }

  pub put_s_lem : (i k : ℕ) → i < n → Effect d n t₀ (AfterS d i k) s (put_s d i k s)
  put_s_lem i k l = choose_case (λ (x : State). Effect d n t₀ (AfterS d i k) s x) (k % d) 0 s (put d (S i (near_power d (k % d))) s)
      (λ e. none_step (AfterS d i k) (λ p r. record { v_kept = λ j. refl; w_becomes = sym (idle (w_less r i) (none e (v_of p i))); w_kept = λ j ne. refl }))
      (λ ne. put_step (AfterS d i k) (S i (near_power d (k % d)))
      (record { qudit = l; power_low = near_low d (k % d) (pos ne); power_high = near_high d (k % d) (mod-lt k (omega (arith, h.large))) })
      (λ p r. let a = after_s r i (near_power d (k % d)) l in record { v_kept = a.v_kept; w_becomes = a.w_becomes ∙ (same (w_of p i) (v_of p i)).same; w_kept = a.w_kept }))
    where
      pos : k % d ≢ 0 → 1 ≤ k % d
      pos ne = omega arith

      none : k % d ≡ 0 → (v : ℕ) → Cong d (k * v) 0
      none e v = cong_trans (cong_mul (cong_trans (cong_sym (cong_mod k)) (cong_of_eq e)) (cong_refl v)) (cong_of_eq (omega arith))

      same : (w v : ℕ) → Cong d (w + near_power d (k % d) * v) (w + k * v)
      same w v = cong_add (cong_refl w) (cong_mul (cong_trans (near_cong d (k % d)) (cong_mod k)) (cong_refl v))

  pub put_a_lem : (i j k : ℕ) → i < n → j < n → i ≢ j → k < d → Effect d n t₀ (AfterA d i j k) s (put_a d i j k s)
  put_a_lem i j k l l' ij m = choose_case (λ (x : State). Effect d n t₀ (AfterA d i j k) s x) k 0 s (put d (A i j k) s)
      (λ e. none_step (AfterA d i j k) (λ p r. subst (λ (x : ℕ). AfterA d i j x p p) (sym e) (after_a_none r i j)))
      (λ ne. put_step (AfterA d i j k) (A i j k) (record { from_qudit = l; to_qudit = l'; apart = ij }, record { qudit = l; power_low = pos ne; power_high = omega arith }) (λ p r. after_a r i j k l l'))
    where
      pos : k ≢ 0 → 1 ≤ k
      pos ne = omega arith

  pub put_m_lem : (i k : ℕ) → i < n → 0 < k → k < d → gcd k d ≡ 1 → Effect d n t₀ (AfterM d i k) s (put_m d i k s)
  put_m_lem i k l low m g = choose_case (λ (x : State). Effect d n t₀ (AfterM d i k) s x) k 1 s (put d (M i k) s)
      (λ e. none_step (AfterM d i k) (λ p r. subst (λ (x : ℕ). AfterM d i x p p) (sym e) (after_m_none r i)))
      (λ ne. put_step (AfterM d i k) (M i k) (g, record { qudit = l; power_low = low; power_high = omega arith }) (λ p r. after_m r i k l))

  pub put_f : (i : ℕ) → i < n → Effect d n t₀ (AfterF d i) s (put d (F i 1) s)
  put_f i l = put_step (AfterF d i) (F i 1) (record { qudit = l; power_low = omega arith; power_high = omega arith }) (λ p r. after_f r i l)

  pub put_f3 : (i : ℕ) → i < n → Effect d n t₀ (AfterF3 d i) s (put d (F i 3) s)
  put_f3 i l = put_step (AfterF3 d i) (F i 3) (record { qudit = l; power_low = omega arith; power_high = omega arith }) (λ p r. after_f3 r i l)

-- a step whose columns change at one qudit
module _ {d n i : ℕ} {t₀ : List Pauli} {s s' : State} where
  pub locally : {After : Pauli → Pauli → Type 0} → Reached d n t₀ s → Effect d n t₀ After s s' → ((p q : Pauli) → InRange d n p → After p q → Local i p q) → Effect d n t₀ (Local i) s s'
  locally h st f = record { reached = st.reached; after = λ c. f (col n s c) (col n s' c) (col_range h c) (st.after c) }

  pub local_effects : {s'' : State} → Effect d n t₀ (Local i) s s' → Effect d n t₀ (Local i) s' s'' → Effect d n t₀ (Local i) s s''
  local_effects a b = record { reached = b.reached; after = λ c. local_then (a.after c) (b.after c) }

-- ---- columns 0 .. t − 1 and n .. n + t − 1 are units up to phase
pub record Base (d n : ℕ) (t₀ : List Pauli) (t : ℕ) (s : State) : Type 0 where
  pub reached : Reached d n t₀ s
  pub in_time : t ≤ n
  pub done_x : (k : ℕ) → k < t → IsX k (col n s k)
  pub done_z : (k : ℕ) → k < t → IsZ k (col n s (n + k))

module _ {d n : ℕ} {t₀ : List Pauli} {t : ℕ} {s s' : State} (b : Base d n t₀ t s) where
  pub base_step : {After : Pauli → Pauli → Type 0} → Effect d n t₀ After s s'
      → ((k : ℕ) (p q : Pauli) → k < t → InRange d n p → IsX k p → After p q → IsX k q)
      → ((k : ℕ) (p q : Pauli) → k < t → InRange d n p → IsZ k p → After p q → IsZ k q)
      → Base d n t₀ t s'
  base_step st fx fz = record {
    reached = st.reached;
    in_time = b.in_time;
    done_x = λ k l. fx k (col n s k) (col n s' k) l (col_range b.reached k) (b.done_x k l) (st.after k);
    done_z = λ k l. fz k (col n s (n + k)) (col n s' (n + k)) l (col_range b.reached (n + k)) (b.done_z k l) (st.after (n + k));
  }

  pub base_a : {i j k : ℕ} → t ≤ i → t ≤ j → Effect d n t₀ (AfterA d i j k) s s' → Base d n t₀ t s'
  base_a {i} {j} ti tj st = base_step st (λ k p q l r x a. x_after_a r x a (λ (e : i ≡ k). omega arith)) (λ k p q l r x a. z_after_a r x a (λ (e : j ≡ k). omega arith))

  -- rows at one qudit that isn't before t
  pub base_local : {i : ℕ} → t ≤ i → Effect d n t₀ (Local i) s s' → Base d n t₀ t s'
  base_local {i} ti st = base_step st (λ k p q l r x a. x_after_local a (λ (e : i ≡ k). omega arith) x) (λ k p q l r z a. z_after_local a (λ (e : i ≡ k). omega arith) z)

-- ---- pairing
paired_no : (d n j k : ℕ) → k ≢ j + n → paired d n j k ≡ 0
paired_no d n j k ne = eqb_case (λ b. cond b (d - 1) 0 ≡ 0) k (j + n) (λ e. absurd (ne e)) (λ o. refl)

paired_yes : (d n j k : ℕ) → k ≡ j + n → paired d n j k ≡ d - 1
paired_yes d n j k e = eqb_case (λ b. cond b (d - 1) 0 ≡ d - 1) k (j + n) (λ o. refl) (λ ne. absurd (ne e))

is_zero : (d x : ℕ) → x < d → Cong d x 0 → x ≡ 0
is_zero d x l h = cong_eq h l (omega arith)

is_zero_neg : (d x : ℕ) → x < d → Cong d x (neg d 0) → x ≡ 0
is_zero_neg d x l h = is_zero d x l (cong_trans h (ring₁ d [] (omega arith) (search quote depth 30) (search quote depth 30) tt))

-- a column that is not finished is 0 at the qudits before t
pub record ZeroBefore (t : ℕ) (p : Pauli) : Type 0 where
  pub v_none : (i : ℕ) → i < t → v_of p i ≡ 0
  pub w_none : (i : ℕ) → i < t → w_of p i ≡ 0

module _ {d n : ℕ} {t₀ : List Pauli} {t : ℕ} {s : State} (b : Base d n t₀ t s) (tn : t < n) where
  pub first_before : ZeroBefore t (col n s t)
  first_before =
      let r = col_range b.reached t in
      record {
        v_none = λ i l. is_zero_neg d (v_of (col n s t) i) (v_less r i) (comm_z_r (d_pos r) (col n s t) (col n s (n + i)) (b.done_z i l)
            (b.reached.sound.pairing.pairs t (n + i) (omega arith) (omega arith) ∙ paired_no d n t (n + i) (λ (e : n + i ≡ t + n). omega arith)));
        w_none = λ i l. is_zero_neg d (w_of (col n s t) i) (w_less r i) (comm_x_l (d_pos r) (col n s i) (col n s t) (b.done_x i l)
            (b.reached.sound.pairing.pairs i t l (omega arith) ∙ paired_no d n i t (λ (e : t ≡ i + n). omega arith)));
      }

  pub second_before : ZeroBefore t (col n s (n + t))
  second_before =
      let r = col_range b.reached (n + t) in
      record {
        v_none = λ i l. is_zero d (v_of (col n s (n + t)) i) (v_less r i) (comm_z_l (d_pos r) (col n s (n + i)) (col n s (n + t)) (b.done_z i l)
            (b.reached.sound.pairing.pairs (n + i) (n + t) (omega arith) (omega arith) ∙ paired_no d n (n + i) (n + t) (λ (e : n + t ≡ n + i + n). omega arith)));
        w_none = λ i l. is_zero_neg d (w_of (col n s (n + t)) i) (w_less r i) (comm_x_l (d_pos r) (col n s i) (col n s (n + t)) (b.done_x i l)
            (b.reached.sound.pairing.pairs i (n + t) (omega arith) (omega arith) ∙ paired_no d n i (n + t) (λ (e : n + t ≡ i + n). omega arith)));
      }

  pub pair : comm d (col n s t) (col n s (n + t)) ≡ d - 1
  pair = b.reached.sound.pairing.pairs t (n + t) (omega arith) (omega arith) ∙ paired_yes d n t (n + t) (omega arith)

-- ---- loops
pub each_law : (P : ℕ → State → Type 0) (f : ℕ → State → State) (k m : ℕ) (s : State) → P k s
    → ((j : ℕ) (s : State) → k ≤ j → j < k + m → P j s → P (suc j) (f j s)) → P (k + m) (each f (up_from k m) s)
each_law P f k zero s h step = subst (λ (x : ℕ). P x s) (omega arith) h
each_law P f k (suc m) s h step =
    subst (λ (x : ℕ). P x (each f (up_from (suc k) m) (f k s))) (omega arith)
    (each_law P f (suc k) m (f k s) (step k s (omega arith) (omega arith) h) (λ j s' l l' h'. step j s' (omega arith) (omega arith) h'))

-- one turn more, at the end: what the loop of a program does
pub each_more : (f : ℕ → State → State) (k m : ℕ) (s : State) → each f (up_from k (suc m)) s ≡ f (k + m) (each f (up_from k m) s)
each_more f k zero s = ap (λ (j : ℕ). f j s) (omega arith)
each_more f k (suc m) s = each_more f (suc k) m (f k s) ∙ ap (λ (j : ℕ). f j (each f (up_from (suc k) m) (f k s))) (omega arith)
