-- What the reduction leaves alone: a stage puts no row where its two columns are units up to phases already, and the identity tableau takes no row at all.
use mathlib.Core.Path.{◌≡◌, refl, sym, ◌∙◌, ap, subst}
use mathlib.Core.Bool.{Bool, cond}
use mathlib.Core.List.{[], map}
use Prim.Native.Nat.{ℕ, zero, suc, ◌+◌, ◌-◌, ◌/◌, ◌%◌, ◌≤◌, ◌<◌}
use native.Mathlib.Nat.{zero-mod, mod-eq_of_lt}
use native.Mathlib.Omega.{arith}
use lib.Dec.{T, T_not, eqb}
use Rattle.arith.proofs.Cases.{eqb_case, and_both, bool_case}
use Rattle.arith.proofs.Remainders.{neg_zero}
use Rattle.arith.specs.Gcd.{gcd}
use Rattle.arith.specs.Units.{least_multiplier, inverse_of, divides, quotient}
use Rattle.arith.proofs.Units.{least_zero, inverse_one}
use Rattle.arith.proofs.Quotient.{quotient_zero}
use Rattle.pauli.specs.Pauli.{Pauli, unit_x, unit_z}
use Rattle.pauli.proofs.Lists.{get_d_zeros, single_same, single_other}
use Rattle.pauli.proofs.Units.{unit_x_lem, unit_z_lem}
use Rattle.gates.specs.Row.{S, A, M, X, Z, undo}
use Rattle.tableau.specs.Tableau.{units, up_from}
use Rattle.tableau.proofs.Columns.{column_units}
use Rattle.synthesis.specs.Inner.Reduce.{State, start, put, near_power, put_x, put_z, v_at, w_at, minus, each, later, onward, gather_w, exchange, clear_w, straighten, no_v, gather, scale, clear_v, clear_partner_w, gathered, first_column, partner_straightened, partner_turned, second_column, stage, phases, reduce, synthesised}
use Rattle.synthesis.proofs.Reached.{choose_case}
use Rattle.synthesis.proofs.Entries.{IsX, IsZ, v_of}
use Rattle.synthesis.proofs.Steps.{col}

-- ---- powers that are no row
pub stays : (k m : ℕ) (s s' : State) → k ≡ m → cond (eqb k m) s s' ≡ s
stays k m s s' e = choose_case (λ (x : State). x ≡ s) k m s s' (λ f. refl) (λ ne. absurd (ne e))

-- ---- steps that do nothing
each_none : (f : ℕ → State → State) (k m : ℕ) (s : State) → ((j : ℕ) → k ≤ j → j < k + m → f j s ≡ s) → each f (up_from k m) s ≡ s
each_none f k zero s h = refl
each_none f k (suc m) s h = ap (each f (up_from (suc k) m)) (h k (omega arith) (omega arith)) ∙ each_none f (suc k) m s (λ j l u. h j (omega arith) (omega arith))

pub clear_none : (d n c j : ℕ) (s : State) → 0 < d → w_at n s c j ≡ 0 → clear_w d n c j s ≡ s
clear_none d n c j s p e =
    let k = quotient d (v_at n s c j) (minus d (w_at n s c j)) in
    stays (k % d) 0 s (put d (S j (near_power d (k % d))) s)
    (ap (λ (x : ℕ). x % d) (quotient_zero d (v_at n s c j) (minus d (w_at n s c j)) p (neg_zero d (w_at n s c j) p e)) ∙ mod-eq_of_lt p)

straighten_none : (d n c j : ℕ) (s : State) → 0 < d → w_at n s c j ≡ 0 → straighten d n c j s ≡ s
unfolding straighten divides
straighten_none d n c j s p e = eqb_case (λ (b : Bool). clear_w d n c j (cond b s (exchange d n c j (gather_w d n c j s))) ≡ s) (w_at n s c j % gcd (v_at n s c j) d) 0
    (λ f. clear_none d n c j s p e)
    (λ ne. absurd (ne (ap (λ (x : ℕ). x % gcd (v_at n s c j) d) e ∙ zero-mod (gcd (v_at n s c j) d))))

no_v_yes : (p : Pauli) (k m : ℕ) → ((i : ℕ) → v_of p i ≡ 0) → T (no_v p (up_from k m))
no_v_yes p k zero h = tt
no_v_yes p k (suc m) h = and_both (eqb (v_of p k) 0) (no_v p (up_from (suc k) m)) (subst (λ (x : ℕ). T (eqb x 0)) (sym (h k)) tt) (no_v_yes p (suc k) m h)

module _ {d n : ℕ} (one : 1 < d) (t : ℕ) (tn : t < n) (s : State) (x : IsX t (col n s t)) (z : IsZ t (col n s (n + t))) where
  straightened_none : each (straighten d n t) (onward d n t) s ≡ s
  straightened_none = each_none (straighten d n t) t (n - t) s (λ j l u. straighten_none d n t j s (omega arith) (x.w_all j))

  first_none : first_column d n t s ≡ s
  unfolding first_column gathered
  first_none =
      let away : (j : ℕ) → t < j → v_of (col n s t) j ≡ 0 = λ j l. x.v_rest j (λ (e : j ≡ t). omega arith) in
      let g : each (gather d n t) (later d n t) s ≡ s = each_none (gather d n t) (suc t) (n - suc t) s
      (λ j l u. let k = least_multiplier d (v_at n s t t) (v_at n s t j) in stays k 0 s (put d (A j t k) s) (least_zero d (v_at n s t t) (v_at n s t j) (omega arith) (away j l))) in
      let m : scale d n t s ≡ s = stays (inverse_of d (v_at n s t t)) 1 s (put d (M t (inverse_of d (v_at n s t t))) s) (inverse_one d (v_at n s t t) one x.v_one) in
      let c : each (clear_v d n t) (later d n t) s ≡ s = each_none (clear_v d n t) (suc t) (n - suc t) s
      (λ j l u. let k = minus d (v_at n s t j) in stays k 0 s (put d (A t j k) s) (neg_zero d (v_at n s t j) (omega arith) (away j l))) in
      ap (λ (y : State). each (clear_v d n t) (later d n t) (scale d n t (each (gather d n t) (later d n t) y))) straightened_none
      ∙ ap (λ (y : State). each (clear_v d n t) (later d n t) (scale d n t y)) g ∙ ap (each (clear_v d n t) (later d n t)) m ∙ c

  partner_none : partner_straightened d n t s ≡ s
  unfolding partner_straightened
  partner_none =
      let w : (j : ℕ) → t < j → w_at n s (n + t) j ≡ 0 = λ j l. z.w_rest j (λ (e : j ≡ t). omega arith) in
      bool_case (λ (b : Bool). cond b (each (clear_partner_w d n t) (later d n t) s) (each (straighten d n (n + t)) (later d n t) s) ≡ s) (no_v (col n s (n + t)) (later d n t))
      (λ e. each_none (clear_partner_w d n t) (suc t) (n - suc t) s
      (λ j l u. let k = w_at n s (n + t) j % d in stays k 0 s (put d (A j t k) s) (ap (λ (x : ℕ). x % d) (w j l) ∙ zero-mod d)))
      (λ e. each_none (straighten d n (n + t)) (suc t) (n - suc t) s (λ j l u. straighten_none d n (n + t) j s (omega arith) (w j l)))

  second_none : second_column d n t s ≡ s
  unfolding second_column
  second_none = bool_case (λ (b : Bool). cond b s (partner_turned d n t s) ≡ s) (no_v (col n s (n + t)) (onward d n t))
      (λ e. refl) (λ e. absurd (T_not (no_v (col n s (n + t)) (onward d n t)) e (no_v_yes (col n s (n + t)) t (n - t) z.v_all)))

  -- columns t and n + t are units up to phases: the stage puts no row
  pub stage_none : stage d n t s ≡ s
  unfolding stage
  stage_none =
      ap (λ (y : State). second_column d n t (partner_straightened d n t y)) first_none
      ∙ ap (second_column d n t) partner_none
      ∙ second_none

half_none : (d h : ℕ) → 0 < d → h ≡ 0 → h / 2 % d ≡ 0
half_none d h p e = ap (λ (x : ℕ). x / 2 % d) e ∙ mod-eq_of_lt p

phases_none : (d n i : ℕ) (s : State) → 0 < d → (col n s i).phase ≡ 0 → (col n s (n + i)).phase ≡ 0 → phases d n i s ≡ s
phases_none d n i s p e f =
    let k = minus d ((col n s i).phase / 2) in
    let m = (col n s (n + i)).phase / 2 % d in
    let z : put_z d i k s ≡ s = stays k 0 s (put d (Z i k) s) (neg_zero d ((col n s i).phase / 2) p (ap (λ (x : ℕ). x / 2) e)) in
    ap (λ (y : State). put_x d i ((col n y (n + i)).phase / 2 % d) y) z ∙ stays m 0 s (put d (X i m) s) (half_none d (col n s (n + i)).phase p f)

-- ---- the identity
module _ {d : ℕ} (one : 1 < d) (n : ℕ) where
  low : (j : ℕ) → j < n → col n (start (units n)) j ≡ unit_x n j
  low j l = column_units n j (omega arith) ∙ unit_x_lem n j l

  high : (j : ℕ) → j < n → col n (start (units n)) (n + j) ≡ unit_z n j
  high j l = column_units n (n + j) (omega arith) ∙ unit_z_lem n (n + j) (omega arith) ∙ ap (unit_z n) (omega arith)

  unit_is_x : (j : ℕ) → j < n → IsX j (unit_x n j)
  unit_is_x j l = record { v_one = single_same n j 1 l; v_rest = λ i ne. single_other n j 1 i ne; w_all = λ i. get_d_zeros n i }

  unit_is_z : (j : ℕ) → j < n → IsZ j (unit_z n j)
  unit_is_z j l = record { w_one = single_same n j 1 l; w_rest = λ i ne. single_other n j 1 i ne; v_all = λ i. get_d_zeros n i }

  identity_reduced : reduce d n (start (units n)) ≡ start (units n)
  unfolding reduce
  identity_reduced =
      let s = start (units n) in
      ap (each (phases d n) (up_from 0 n)) (each_none (stage d n) 0 n s (λ j l u.
      stage_none one j (omega arith) s (subst (IsX j) (sym (low j (omega arith))) (unit_is_x j (omega arith))) (subst (IsZ j) (sym (high j (omega arith))) (unit_is_z j (omega arith)))))
      ∙ each_none (phases d n) 0 n s (λ j l u. phases_none d n j s (omega arith) (ap (λ (p : Pauli). p.phase) (low j (omega arith))) (ap (λ (p : Pauli). p.phase) (high j (omega arith))))

  -- the identity takes no row
  pub identity_empty : synthesised d n (units n) ≡ []
  unfolding synthesised
  identity_empty = ap (λ (s : State). map (undo d) s.rows) identity_reduced
