-- What the loop over the stages needs: room for each stage's rows, and that its pivot is a unit. Assumes nothing.
use mathlib.Core.Path.{◌≡◌, sym, ◌∙◌, ap, subst}
use mathlib.Core.List.{List}
use Prim.Native.Nat.{ℕ, suc, ◌+◌, ◌*◌, ◌-◌, ◌≤◌, ◌<◌}
use native.Mathlib.Numerals.{add-one}
use native.Mathlib.Omega.{arith}
use Rattle.arith.specs.Units.{IsUnit}
use Rattle.pauli.specs.Pauli.{Pauli}
use Rattle.tableau.specs.Tableau.{WellFormed, Sound, up_from}
use Rattle.synthesis.specs.Inner.Reduce.{State, start, v_at, each, gathered, stage}
use Rattle.synthesis.proofs.Progress.{up_to}
use Rattle.synthesis.proofs.Theorem.{stage_unit}

-- how many rows m stages make at most
abbrev pub stage_rows : ℕ → ℕ
stage_rows m = 5 * (m * m) + 4 * m

-- a stage takes its part of them
pub stage_part : (n q c most : ℕ) → q < n → c + stage_rows (n - q) ≤ most → c + (9 * (n - suc q) + 7) + stage_rows (n - suc q) ≤ most
stage_part n q c most l h = let e : n - q ≡ suc (n - suc q) = omega arith in one (n - suc q) (rw e at h)
  where
    one : (m : ℕ) → c + stage_rows (suc m) ≤ most → c + (9 * m + 7) + stage_rows m ≤ most
    one m k = omega (arith, k)

pub stage_start : (n c : ℕ) → c + stage_rows (n - 0) ≤ c + stage_rows n
stage_start n c = let e : n - 0 ≡ n = omega arith in rw e (omega arith)

pub stage_next : (n q c c' most : ℕ) → q < n → c + stage_rows (n - q) ≤ most → c' ≤ c + (9 * (n - suc q) + 7) → c' + stage_rows (n - (q + 1)) ≤ most
stage_next n q c c' most l h k = rw (add-one q) (omega (arith, stage_part n q c most l h))

-- all from 0 on
pub up_all : (f : ℕ → State → State) (j : ℕ) (s : State) → up_to f 0 j s ≡ each f (up_from 0 j) s
up_all f j s = let e : j - 0 ≡ j = omega arith in ap (λ (m : ℕ). each f (up_from 0 m) s) e

-- the pivot at the tableau u that the stages before q have led to
pub unit_at : {d n : ℕ} {t u : List Pauli} → 1 < d → WellFormed d n t → Sound d n t → (q : ℕ) → q < n → u ≡ (up_to (stage d n) 0 q (start t)).tableau
    → IsUnit d (v_at n (gathered d n q (start u)) q q)
unit_at {d} {n} {t} {u} one formed sound q l e =
    subst (λ (x : List Pauli). IsUnit d (v_at n (gathered d n q (start x)) q q)) (sym (e ∙ ap (λ (s : State). s.tableau) (up_all (stage d n) q (start t)))) (stage_unit one formed sound q l)
