-- What the rows of a step weigh, by any weights: at most `a i j` for an A row between qudits i < j and at most `o` for any other row. The first half of a stage, and
-- the phases.
use mathlib.Core.Bool.{Bool, cond}
use mathlib.Core.List.{List}
use mathlib.Core.Logic.{◌≢◌}
use Prim.Native.Nat.{ℕ, zero, suc, ◌+◌, ◌*◌, ◌-◌, ◌/◌, ◌%◌, ◌≤◌, ◌<◌}
use native.Mathlib.Nat.{mod-lt}
use native.Mathlib.Omega.{arith}
use lib.Dec.{eqb, ltb}
use Rattle.arith.proofs.Cases.{bool_case}
use Rattle.arith.specs.Units.{least_multiplier, inverse_of, divides, quotient}
use Rattle.pauli.specs.Pauli.{Pauli}
use Rattle.gates.specs.Row.{Row, F, S, A, M, X, Z}
use Rattle.tableau.specs.Tableau.{up_from, column}
use Rattle.synthesis.specs.Inner.Reduce.{State, put, near_power, put_a, put_s, put_z, v_at, w_at, minus, each, later, gather_w, exchange, clear_w, straighten, gather, scale, clear_v, phases}
use Rattle.synthesis.specs.Measures.{weigh}
use Rattle.synthesis.proofs.Reached.{Reached, choose_case}

-- the rows that the reduction puts, and what they weigh at most
pub record Weights (d : ℕ) (w : Row → ℕ) (a : ℕ → ℕ → ℕ) (o : ℕ) : Type 0 where
  pub large : 0 < d
  pub of_f : (i : ℕ) → w (F i 1) ≤ o
  pub of_f3 : (i : ℕ) → w (F i 3) ≤ o
  pub of_s : (i k : ℕ) → k ≢ 0 → k < d → w (S i (near_power d k)) ≤ o
  pub of_a : (i j k : ℕ) → i < j → k ≢ 0 → w (A i j k) ≤ a i j
  pub of_a_back : (i j k : ℕ) → i < j → k ≢ 0 → w (A j i k) ≤ a i j
  pub of_m : (i v : ℕ) → inverse_of d v ≢ 1 → w (M i (inverse_of d v)) ≤ o
  pub of_x : (i k : ℕ) → k ≢ 0 → w (X i k) ≤ o
  pub of_z : (i k : ℕ) → k ≢ 0 → w (Z i k) ≤ o

-- f k + f (k + 1) + .., m of them
abbrev pub total : (ℕ → ℕ) → ℕ → ℕ → ℕ
total f k zero = 0
total f k (suc m) = f k + total f (suc k) m

module _ (w : Row → ℕ) where
  -- a step whose rows weigh at most k
  pub record Adds (k : ℕ) (s s' : State) : Type 0 where
    pub most : weigh w s'.rows ≤ k + weigh w s.rows

module _ {w : Row → ℕ} where
  pub maybe : (k m o : ℕ) (r : Row) (d : ℕ) (s : State) → (k ≢ m → w r ≤ o) → Adds w o s (cond (eqb k m) s (put d r s))
  maybe k m o r d s h = choose_case (λ (x : State). Adds w o s x) k m s (put d r s) (λ e. record { most = omega arith }) (λ ne. record { most = omega (arith, h ne) })

  pub always : (o : ℕ) (r : Row) (d : ℕ) (s : State) → w r ≤ o → Adds w o s (put d r s)
  always o r d s h = record { most = omega arith }

  pub nothing : (k : ℕ) (s : State) → Adds w k s s
  nothing k s = record { most = omega arith }

  pub then : {k l : ℕ} (s s' s'' : State) → Adds w k s s' → Adds w l s' s'' → Adds w (k + l) s s''
  then s s' s'' a b = record { most = omega (arith, a.most, b.most) }

  pub adds : {k : ℕ} (l : ℕ) (s s' : State) → k ≤ l → Adds w k s s' → Adds w l s s'
  adds l s s' h a = record { most = omega (arith, a.most) }

  pub each_adds : (f : ℕ → State → State) (k a m : ℕ) (s : State) → ((j : ℕ) (s : State) → Adds w k s (f j s)) → Adds w (k * m) s (each f (up_from a m) s)
  each_adds f k a zero s h = record { most = omega arith }
  each_adds f k a (suc m) s h = record { most = omega (arith, (h a s).most, (each_adds f k (suc a) m (f a s) h).most) }

  -- a loop whose turn j weighs at most c j
  pub each_turn_adds : (f : ℕ → State → State) (c : ℕ → ℕ) (k m : ℕ) (s : State) → ((j : ℕ) (s : State) → k ≤ j → Adds w (c j) s (f j s)) → Adds w (total c k m) s (each f (up_from k m) s)
  each_turn_adds f c k zero s h = record { most = omega arith }
  each_turn_adds f c k (suc m) s h = record { most = omega (arith, (h k s (omega arith)).most, (each_turn_adds f c (suc k) m (f k s) (λ j s' l. h j s' (omega arith))).most) }

module _ {d : ℕ} {w : Row → ℕ} {a : ℕ → ℕ → ℕ} {o : ℕ} (h : Weights d w a o) (n : ℕ) where
  pub shear_adds : (i k : ℕ) (s : State) → Adds w o s (put_s d i k s)
  shear_adds i k s = maybe (k % d) 0 o (S i (near_power d (k % d))) d s (λ ne. h.of_s i (k % d) ne (mod-lt k h.large))

  pub a_adds : (i j k : ℕ) (s : State) → i < j → Adds w (a i j) s (put_a d i j k s)
  a_adds i j k s l = maybe k 0 (a i j) (A i j k) d s (λ ne. h.of_a i j k l ne)

  pub a_back_adds : (i j k : ℕ) (s : State) → i < j → Adds w (a i j) s (put_a d j i k s)
  a_back_adds i j k s l = maybe k 0 (a i j) (A j i k) d s (λ ne. h.of_a_back i j k l ne)

  pub clear_adds : (c j : ℕ) (s : State) → Adds w o s (clear_w d n c j s)
  clear_adds c j s = shear_adds j (quotient d (v_at n s c j) (minus d (w_at n s c j))) s

  pub exchange_adds : (c j : ℕ) (s : State) → Adds w o s (exchange d n c j s)
  exchange_adds c j s = bool_case (λ (b : Bool). Adds w o s (put d (F j (cond b 1 3)) s)) (ltb d (2 * w_at n s c j))
      (λ e. always o (F j 1) d s (h.of_f j)) (λ e. always o (F j 3) d s (h.of_f3 j))

  straighten_adds : (c j : ℕ) (s : State) → Adds w (3 * o) s (straighten d n c j s)
  unfolding straighten
  straighten_adds c j s =
      let s1 = gather_w d n c j s in
      let s2 = exchange d n c j s1 in
      let a1 = shear_adds j (least_multiplier d (w_at n s c j) (v_at n s c j)) s in
      bool_case (λ (b : Bool). Adds w (3 * o) s (clear_w d n c j (cond b s s2))) (divides d (v_at n s c j) (w_at n s c j))
      (λ e. adds (3 * o) s (clear_w d n c j s) (omega arith) (clear_adds c j s))
      (λ e. adds (3 * o) s (clear_w d n c j s2) (omega arith) (then s s2 (clear_w d n c j s2) (then s s1 s2 a1 (exchange_adds c j s1)) (clear_adds c j s2)))

  module _ (t : ℕ) where
    -- once the column is straightened
    pub first_adds : (s : State) → Adds w (total (a t) (suc t) (n - suc t) + o + total (a t) (suc t) (n - suc t)) s (each (clear_v d n t) (later d n t) (scale d n t (each (gather d n t) (later d n t) s)))
    first_adds s =
        let s1 = each (gather d n t) (later d n t) s in
        let a1 = each_turn_adds (gather d n t) (a t) (suc t) (n - suc t) s (λ j s' l. a_back_adds t j (least_multiplier d (v_at n s' t t) (v_at n s' t j)) s' l) in
        let s2 = scale d n t s1 in
        let k = inverse_of d (v_at n s1 t t) in
        let a2 = maybe k 1 o (M t k) d s1 (λ ne. h.of_m t (v_at n s1 t t) ne) in
        let s3 = each (clear_v d n t) (later d n t) s2 in
        let a3 = each_turn_adds (clear_v d n t) (a t) (suc t) (n - suc t) s2 (λ j s' l. a_adds t j (minus d (v_at n s' t j)) s' l) in
        then s s2 s3 (then s s1 s2 a1 a2) a3

  pub phases_add : (i : ℕ) (s : State) → Adds w (2 * o) s (phases d n i s)
  phases_add i s =
      let k = minus d ((column n s.tableau i).phase / 2) in
      let z = put_z d i k s in
      let m = (column n z.tableau (n + i)).phase / 2 % d in
      adds (2 * o) s (phases d n i s) (omega arith) (then s z (phases d n i s) (maybe k 0 o (Z i k) d s (λ ne. h.of_z i k ne)) (maybe m 0 o (X i m) d z (λ ne. h.of_x i m ne)))

-- weights, and what the rows of straighten weigh
pub record Costs (d n : ℕ) (t₀ : List Pauli) (w : Row → ℕ) (a : ℕ → ℕ → ℕ) (o q : ℕ) : Type 0 where
  pub weights : Weights d w a o
  pub straight : (c j : ℕ) (s : State) → j < n → Reached d n t₀ s → Adds w q s (straighten d n c j s)

-- three rows, for any d
pub costs : {d n : ℕ} {t₀ : List Pauli} {w : Row → ℕ} {a : ℕ → ℕ → ℕ} {o : ℕ} → Weights d w a o → Costs d n t₀ w a o (3 * o)
costs {n = n} h = record { weights = h; straight = λ c j s l r. straighten_adds h n c j s }

-- a loop whose turns weigh so much where P holds
pub each_adds_at : {w : Row → ℕ} (P : ℕ → State → Type 0) (f : ℕ → State → State) (q k m : ℕ) (s : State) → P k s
    → ((j : ℕ) (s : State) → k ≤ j → j < k + m → P j s → P (suc j) (f j s)) → ((j : ℕ) (s : State) → k ≤ j → j < k + m → P j s → Adds w q s (f j s)) → Adds w (q * m) s (each f (up_from k m) s)
each_adds_at P f q k zero s h step cost = record { most = omega arith }
each_adds_at P f q k (suc m) s h step cost =
    let r = each_adds_at P f q (suc k) m (f k s) (step k s (omega arith) (omega arith) h) (λ j s' l u. step j s' (omega arith) (omega arith)) (λ j s' l u. cost j s' (omega arith) (omega arith)) in
    let c = cost k s (omega arith) (omega arith) h in
    record { most = omega (arith, c.most, r.most) }
