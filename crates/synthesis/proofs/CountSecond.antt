-- What the rows of the second half of a stage weigh, and of all stages. A later qudit takes one A row there: from it where v of column n + t is 0 at all of them
-- at first, and to it else.
use mathlib.Core.Bool.{Bool, cond}
use mathlib.Core.Path.{◌≡◌, refl, ◌∙◌, ap, ap₂}
use mathlib.Core.List.{List}
use mathlib.Core.Logic.{◌≢◌}
use Prim.Native.Nat.{ℕ, zero, suc, ◌+◌, ◌*◌, ◌-◌, ◌%◌, ◌≤◌, ◌<◌}
use native.Mathlib.Nat.{mod-lt, zero-mod}
use native.Mathlib.Omega.{arith}
use lib.Dec.{eqb}
use Rattle.arith.proofs.Cases.{by_eq, eqb_case, bool_case}
use Rattle.pauli.specs.Pauli.{Pauli}
use Rattle.gates.specs.Row.{Row, F, A}
use Rattle.tableau.specs.Tableau.{up_from}
use Rattle.synthesis.specs.Inner.Reduce.{State, put, each, later, onward, w_at, v_at, no_v, straighten, clear_partner_w, clear_partner_v, shear_partner, gathered, first_column, partner_straightened, partner_turned, second_column, stage, phases, reduce}
use Rattle.synthesis.specs.Measures.{weigh, both}
use Rattle.synthesis.proofs.Reached.{choose_case}
use Rattle.synthesis.proofs.Entries.{v_of}
use Rattle.synthesis.proofs.Steps.{Base, col, put_a_lem, put_f}
use Rattle.synthesis.proofs.FirstColumn.{FirstDone, Straight, straight_step, first_law}
use Rattle.synthesis.proofs.SecondColumn.{PartnerW, PartnerV, partner_start, partner_w_step, partner_a_law, partner_turn, partner_v_step, partner_law, stage_law}
use Rattle.synthesis.proofs.Count.{Weights, Adds, total, always, then, adds, each_adds, each_turn_adds, shear_adds, a_adds, a_back_adds, first_adds, phases_add, Costs, each_adds_at}

-- ---- sums
-- 0 + 1 + .. + (m − 1)
abbrev pub tri : ℕ → ℕ
tri zero = 0
tri (suc m) = m + tri m

pub tri_twice : (m : ℕ) → 2 * tri m + m ≡ m * m
tri_twice zero = refl
tri_twice (suc m) = omega (arith, tri_twice m)

-- a number for each pair of qudits i < j, of the m qudits from k on
abbrev pub pairs : (ℕ → ℕ → ℕ) → ℕ → ℕ → ℕ
pairs a k zero = 0
pairs a k (suc m) = total (a k) (suc k) m + pairs a (suc k) m

times_same : (q x y : ℕ) → x ≡ y → q * x ≤ q * y
times_same q x y e = omega (arith, ap (λ (z : ℕ). q * z) e)

stage_sum : (x o q m : ℕ) → q * suc m + (x + o + x) + (q * m + x + (o + o + o)) ≤ q * (2 * m + 1) + 4 * o + 3 * x
stage_sum x o q m = omega arith

stages_sum : (x y o q m : ℕ) → q * (2 * m + 1) + 4 * o + 3 * x + (q * (m * m) + 4 * o * m + 3 * y) ≤ q * (suc m * suc m) + 4 * o * suc m + 3 * (x + y)
stages_sum x y o q m = omega arith

all_sum : (x o q n : ℕ) → q * (n * n) + 4 * o * n + 3 * x + 2 * o * n ≤ q * (n * n) + 6 * o * n + 3 * x
all_sum x o q n = omega arith

total_same : (f g : ℕ → ℕ) (k m : ℕ) → ((i : ℕ) → k ≤ i → f i ≡ g i) → total f k m ≡ total g k m
total_same f g k zero h = refl
total_same f g k (suc m) h = ap₂ ◌+◌ (h k (omega arith)) (total_same f g (suc k) m (λ i l. h i (omega arith)))

total_none : (f : ℕ → ℕ) (k m : ℕ) → ((i : ℕ) → k ≤ i → i < k + m → f i ≡ 0) → total f k m ≡ 0
total_none f k zero h = refl
total_none f k (suc m) h = omega (arith, h k (omega arith) (omega arith), total_none f (suc k) m (λ i l u. h i (omega arith) (omega arith)))

total_most : (f g : ℕ → ℕ) (k m : ℕ) → ((i : ℕ) → f i ≤ g i) → total f k m ≤ total g k m
total_most f g k zero h = omega arith
total_most f g k (suc m) h = omega (arith, h k, total_most f g (suc k) m h)

-- 0 for 0 and 1 for any other number
abbrev some : ℕ → ℕ
some x = cond (eqb x 0) 0 1

some_most : (a x : ℕ) → a * some x ≤ a
some_most a x = eqb_case (λ (b : Bool). a * cond {A = ℕ} b 0 1 ≤ a) x 0 (λ e. omega arith) (λ ne. omega arith)

-- ---- a loop that watches a number for each qudit
module _ (w : Row → ℕ) (t n : ℕ) (watched : State → ℕ → ℕ) (P : ℕ → State → Type 0) (f : ℕ → State → State)
    (step : (j : ℕ) (s : State) → t < j → j < n → P j s → P (suc j) (f j s))
    (kept : (j : ℕ) (s : State) (i : ℕ) → t < j → j < n → P j s → t < i → i ≢ j → watched (f j s) i ≡ watched s i) where
  -- each turn's rows weigh at most as much as its number before
  spends : (a : ℕ → ℕ) → ((j : ℕ) (s : State) → t < j → j < n → P j s → weigh w (f j s).rows ≤ a j * some (watched s j) + weigh w s.rows)
      → (k m : ℕ) (s : State) → t < k → k + m ≤ n → P k s → weigh w (each f (up_from k m) s).rows ≤ total (λ i. a i * some (watched s i)) k m + weigh w s.rows
  spends a turn k zero s tk l h = omega arith
  spends a turn k (suc m) s tk l h =
      let s1 = f k s in
      let r = spends a turn (suc k) m s1 (omega arith) (omega arith) (step k s tk (omega arith) h) in
      let q = turn k s tk (omega arith) h in
      let u = total_same (λ i. a i * some (watched s1 i)) (λ i. a i * some (watched s i)) (suc k) m (λ i b. ap (λ (x : ℕ). a i * some x) (kept k s i tk (omega arith) h (omega arith) (λ (e : i ≡ k). omega arith))) in
      omega (arith, u, q, r)

-- ---- the second half
-- v of column n + t
abbrev v_of_column : ℕ → ℕ → State → ℕ → ℕ
v_of_column n t s i = v_of (col n s (n + t)) i

module _ {d : ℕ} {w : Row → ℕ} {a : ℕ → ℕ → ℕ} {o q n : ℕ} {t₀ : List Pauli} (costs : Costs d n t₀ w a o q) (one : 1 < d) {t : ℕ} (tn : t < n) where
  h : Weights d w a o
  h = costs.weights

  clear_kept : (j : ℕ) (s : State) (i : ℕ) → t < j → j < n → PartnerV d n t₀ t j s → t < i → i ≢ j → v_of_column n t (clear_partner_v d n t j s) i ≡ v_of_column n t s i
  clear_kept j s i tj jn p ti ne = ((put_a_lem p.base.reached t j (v_at n s (n + t) j % d) tn jn (λ (e : t ≡ j). omega arith) (mod-lt (v_at n s (n + t) j) (omega arith))).after (n + t)).v_kept i ne

  clear_weighs : (j : ℕ) (s : State) → t < j → j < n → PartnerV d n t₀ t j s → weigh w (clear_partner_v d n t j s).rows ≤ a t j * some (v_of_column n t s j) + weigh w s.rows
  clear_weighs j s tj jn p =
      let x = v_at n s (n + t) j in
      let s1 = put d (A t j (x % d)) s in
      eqb_case (λ (b : Bool). weigh w (clear_partner_v d n t j s).rows ≤ a t j * cond {A = ℕ} b 0 1 + weigh w s.rows) x 0
      (λ e. choose_case (λ (y : State). weigh w y.rows ≤ a t j * 0 + weigh w s.rows) (x % d) 0 s s1 (λ f. omega arith) (λ ne. absurd (ne (ap (λ (y : ℕ). y % d) e ∙ zero-mod d))))
      (λ ne. omega (arith, (a_adds h n t j (x % d) s tj).most))

  -- what the A rows to come weigh
  due : State → ℕ
  due s = total (λ i. a t i * some (v_of_column n t s i)) (suc t) (n - suc t)

  turned_weighs : (s : State) → PartnerW d n t₀ t n s → weigh w (partner_turned d n t s).rows ≤ (o + o + o) + due s + weigh w s.rows
  unfolding partner_turned due
  turned_weighs s p =
      let s1 = put d (F t 1) s in
      let a1 = always {w = w} o (F t 1) d s (h.of_f t) in
      let s2 = each (clear_partner_v d n t) (later d n t) s1 in
      let a2 = spends w t n (v_of_column n t) (PartnerV d n t₀ t) (clear_partner_v d n t) (partner_v_step one tn) clear_kept (a t) clear_weighs (suc t) (n - suc t) s1 (omega arith) (omega arith) (partner_turn one tn s p) in
      let same = total_same (λ i. a t i * some (v_of_column n t s1 i)) (λ i. a t i * some (v_of_column n t s i)) (suc t) (n - suc t) (λ i l. ap (λ (x : ℕ). a t i * some x) (((put_f p.base.reached t tn).after (n + t)).v_kept i (λ (e : i ≡ t). omega arith))) in
      let s3 = shear_partner d n t s2 in
      let a3 = shear_adds h n t (w_at n s2 (n + t) t) s2 in
      let a4 = always {w = w} o (F t 3) d s3 (h.of_f3 t) in
      sum (weigh w s.rows) (weigh w s1.rows) (weigh w s2.rows) (weigh w s3.rows) (weigh w (put d (F t 3) s3).rows) (due s1) (due s) a1.most a2 same a3.most a4.most
    where
      sum : (x x1 x2 x3 x4 p q : ℕ) → x1 ≤ o + x → x2 ≤ p + x1 → p ≡ q → x3 ≤ o + x2 → x4 ≤ o + x3 → x4 ≤ (o + o + o) + q + x
      sum x x1 x2 x3 x4 p q h1 h2 e h3 h4 = omega arith

  second_weighs : (s : State) → PartnerW d n t₀ t n s → weigh w (second_column d n t s).rows ≤ (o + o + o) + due s + weigh w s.rows
  unfolding second_column
  second_weighs s p =
      bool_case (λ (b : Bool). weigh w (cond b s (partner_turned d n t s)).rows ≤ (o + o + o) + due s + weigh w s.rows) (no_v (col n s (n + t)) (onward d n t))
      (λ e. omega arith) (λ e. turned_weighs s p)

  -- the A rows of the second half are put by the first loop, or are due after it
  partner_weighs : (s : State) → FirstDone d n t₀ t s
      → weigh w (partner_straightened d n t s).rows + due (partner_straightened d n t s) ≤ q * (n - suc t) + total (a t) (suc t) (n - suc t) + weigh w s.rows
  unfolding partner_straightened due
  partner_weighs s f =
      let each_a = each (clear_partner_w d n t) (later d n t) s in
      let each_s = each (straighten d n (n + t)) (later d n t) s in
      let most = q * (n - suc t) + total (a t) (suc t) (n - suc t) + weigh w s.rows in
      bool_case (λ (b : Bool). weigh w (cond b each_a each_s).rows + total (λ i. a t i * some (v_of_column n t (cond b each_a each_s) i)) (suc t) (n - suc t) ≤ most) (no_v (col n s (n + t)) (later d n t))
      (λ e. omega (
        arith,
        (each_turn_adds (clear_partner_w d n t) (a t) (suc t) (n - suc t) s (λ j s' l. a_back_adds h n t j (w_at n s' (n + t) j % d) s' l)).most,
        total_none (λ i. a t i * some (v_of_column n t each_a i)) (suc t) (n - suc t) (λ i l u. none (a t i) (v_of_column n t each_a i) ((partner_a_law one tn s f e).v_none i l (omega arith))),
      ))
      (λ e. omega (
        arith,
        (each_adds_at (PartnerW d n t₀ t) (straighten d n (n + t)) q (suc t) (n - suc t) s (partner_start one tn s f)
            (λ j s' l u. partner_w_step one tn j s' l (omega arith)) (λ j s' l u p. costs.straight (n + t) j s' (omega arith) p.base.reached)).most,
        total_most (λ i. a t i * some (v_of_column n t each_s i)) (a t) (suc t) (n - suc t) (λ i. some_most (a t i) (v_of_column n t each_s i)),
      ))
    where
      none : (a x : ℕ) → x ≡ 0 → a * some x ≡ 0
      none a x e = eqb_case (λ (b : Bool). a * cond {A = ℕ} b 0 1 ≡ 0) x 0 (λ f. omega arith) (λ ne. absurd (ne e))

  second_adds : (s : State) → FirstDone d n t₀ t s → Adds w (q * (n - suc t) + total (a t) (suc t) (n - suc t) + (o + o + o)) s (second_column d n t (partner_straightened d n t s))
  second_adds s f =
      let s1 = partner_straightened d n t s in
      record {
        most = sum (weigh w s.rows) (weigh w s1.rows) (weigh w (second_column d n t s1).rows) (due s1) (q * (n - suc t) + total (a t) (suc t) (n - suc t))
            (partner_weighs s f) (second_weighs s1 (partner_law one tn s f));
      }
    where
      sum : (x x1 x2 p c : ℕ) → x1 + p ≤ c + x → x2 ≤ (o + o + o) + p + x1 → x2 ≤ c + (o + o + o) + x
      sum x x1 x2 p c h1 h2 = omega arith

  straightened_adds : (s : State) → Base d n t₀ t s → Adds w (q * (n - t)) s (each (straighten d n t) (onward d n t) s)
  straightened_adds s b = each_adds_at (Straight d n t₀ t) (straighten d n t) q t (n - t) s (record { base = b; w_none = λ i l m. absurd (omega arith) })
      (λ j s' l u. straight_step one tn j s' l (omega arith)) (λ j s' l u p. costs.straight t j s' (omega arith) p.base.reached)

  pub stage_adds : (s : State) → Base d n t₀ t s → Adds w (q * (2 * (n - suc t) + 1) + 4 * o + 3 * total (a t) (suc t) (n - suc t)) s (stage d n t s)
  unfolding stage first_column gathered
  stage_adds s b =
      let s1 = each (straighten d n t) (onward d n t) s in
      let s2 = first_column d n t s in
      let s3 = second_column d n t (partner_straightened d n t s2) in
      adds (q * (2 * (n - suc t) + 1) + 4 * o + 3 * total (a t) (suc t) (n - suc t)) s s3 (stage_sum (total (a t) (suc t) (n - suc t)) o q (n - suc t))
      (then s s2 s3 (then s s1 s2 (adds (q * suc (n - suc t)) s s1 (times_same q (n - t) (suc (n - suc t)) (omega arith)) (straightened_adds s b)) (first_adds h n t s1)) (second_adds s2 (first_law one tn s b)))

-- ---- all of it
module _ {d : ℕ} {w : Row → ℕ} {a : ℕ → ℕ → ℕ} {o q n : ℕ} {t₀ : List Pauli} (costs : Costs d n t₀ w a o q) (one : 1 < d) where
  stages_adds : (k m : ℕ) (s : State) → k + m ≡ n → Base d n t₀ k s → Adds w (q * (m * m) + 4 * o * m + 3 * pairs a k m) s (each (stage d n) (up_from k m) s)
  stages_adds k zero s e b = record { most = omega arith }
  stages_adds k (suc m) s e b =
      let s1 = stage d n k s in
      let s2 = each (stage d n) (up_from (suc k) m) s1 in
      adds (q * (suc m * suc m) + 4 * o * suc m + 3 * pairs a k (suc m)) s s2 (stages_sum (total (a k) (suc k) m) (pairs a (suc k) m) o q m)
      (then s s1 s2 (at (n - suc k) m (omega arith) (stage_adds costs one (omega arith) s b)) (stages_adds (suc k) m s1 (omega arith) (stage_law one (omega arith) s b)))
    where
      at : {s s1 : State} (x m : ℕ) → x ≡ m → Adds w (q * (2 * x + 1) + 4 * o + 3 * total (a k) (suc k) x) s s1 → Adds w (q * (2 * m + 1) + 4 * o + 3 * total (a k) (suc k) m) s s1
      at x m e z = rw e at z

  pub reduce_adds : (s : State) → Base d n t₀ 0 s → Adds w (q * (n * n) + 6 * o * n + 3 * pairs a 0 n) s (reduce d n s)
  unfolding reduce
  reduce_adds s b =
      let s1 = each (stage d n) (up_from 0 n) s in
      let s2 = each (phases d n) (up_from 0 n) s1 in
      adds (q * (n * n) + 6 * o * n + 3 * pairs a 0 n) s s2 (all_sum (pairs a 0 n) o q n) (then s s1 s2 (stages_adds 0 n s (omega arith) b) (each_adds (phases d n) (2 * o) 0 n s1 (phases_add costs.weights n)))

-- ---- the same number for every pair, and 1 for one pair
pub total_const : (c k m : ℕ) → total (λ j. c) k m ≡ c * m
total_const c k zero = omega arith
total_const c k (suc m) = omega (arith, total_const c (suc k) m)

pub pairs_const : (c k m : ℕ) → pairs (λ i j. c) k m ≡ c * tri m
pairs_const c k zero = omega arith
pairs_const c k (suc m) = omega (arith, total_const c (suc k) m, pairs_const c (suc k) m)

-- 1 where i is p and j is q
module _ (p q : ℕ) where
  one_total_none : (k m : ℕ) → q < k → total (λ j. cond (eqb j q) 1 0) k m ≡ 0
  one_total_none k zero l = refl
  one_total_none k (suc m) l = eqb_case (λ (b : Bool). cond {A = ℕ} b 1 0 + total (λ j. cond (eqb j q) 1 0) (suc k) m ≡ 0) k q (λ e. absurd (omega arith)) (λ ne. omega (arith, one_total_none (suc k) m (omega arith)))

  one_total : (k m : ℕ) → total (λ j. cond (eqb j q) 1 0) k m ≤ 1
  one_total k zero = omega arith
  one_total k (suc m) = eqb_case (λ (b : Bool). cond {A = ℕ} b 1 0 + total (λ j. cond (eqb j q) 1 0) (suc k) m ≤ 1) k q
      (λ e. omega (arith, one_total_none (suc k) m (omega arith))) (λ ne. omega (arith, one_total (suc k) m))

  total_zero : (k m : ℕ) → total (λ j. 0) k m ≡ 0
  total_zero k m = total_const 0 k m ∙ omega arith

  both_total_none : (i k m : ℕ) → i ≢ p → total (both p q i) k m ≡ 0
  both_total_none i k m ne = eqb_case (λ (b : Bool). total (λ j. cond b (cond (eqb j q) 1 0) 0) k m ≡ 0) i p (λ e. absurd (ne e)) (λ o. total_zero k m)

  both_total : (i k m : ℕ) → total (both p q i) k m ≤ 1
  both_total i k m = eqb_case (λ (b : Bool). total (λ j. cond b (cond (eqb j q) 1 0) 0) k m ≤ 1) i p (λ e. one_total k m) (λ ne. omega (arith, total_zero k m))

  pairs_none : (k m : ℕ) → p < k → pairs (both p q) k m ≡ 0
  pairs_none k zero l = refl
  pairs_none k (suc m) l = omega (arith, both_total_none k (suc k) m (λ (e : k ≡ p). omega arith), pairs_none (suc k) m (omega arith))

  pub pairs_one : (k m : ℕ) → pairs (both p q) k m ≤ 1
  pairs_one k zero = omega arith
  pairs_one k (suc m) = by_eq k p
      (λ e. omega (arith, both_total k (suc k) m, pairs_none (suc k) m (omega arith)))
      (λ ne. omega (arith, both_total_none k (suc k) m ne, pairs_one (suc k) m))
