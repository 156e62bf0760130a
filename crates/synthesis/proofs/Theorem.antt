-- The reduction ends at the units, so the undo rows do the tableau: they are legal, their tableau is the given one, and there are at most 5·n·n + 6·n of them.
use mathlib.Core.Path.{◌≡◌, refl, sym, ◌∙◌, ap}
use mathlib.Core.List.{List, map, map-map}
use Prim.Native.Nat.{ℕ, ◌+◌, ◌*◌, ◌≤◌, ◌<◌}
use native.Mathlib.Nat.{not-suc-le-zero}
use native.Mathlib.Omega.{arith}
use lib.ListN.{length}
use Rattle.arith.specs.Units.{IsUnit}
use Rattle.pauli.specs.Pauli.{Pauli}
use Rattle.gates.specs.Row.{Row, AllLegal, none, run, undo}
use Rattle.gates.proofs.Run.{run_last, run_undoes, undo_legal}
use Rattle.tableau.specs.Tableau.{WellFormed, Sound, units, tableau_of, up_from}
use Rattle.tableau.proofs.Columns.{map_same}
use Rattle.synthesis.specs.Inner.Reduce.{State, start, v_at, each, gathered, stage, reduce, synthesised}
use Rattle.synthesis.specs.Measures.{weigh}
use Rattle.synthesis.proofs.Reached.{Reached}
use Rattle.synthesis.proofs.Steps.{Base}
use Rattle.synthesis.proofs.FirstColumn.{pivot_unit}
use Rattle.synthesis.proofs.SecondColumn.{stages_law}
use Rattle.synthesis.proofs.Phases.{Phased, phases_law, phased_units}
use Rattle.synthesis.proofs.Count.{Costs, costs}
use Rattle.synthesis.proofs.CountSecond.{tri, tri_twice, pairs, pairs_const, reduce_adds}
use Rattle.synthesis.proofs.Busy.{weigh_map, weigh_ones, ones}

-- what synthesis does
pub record Synthesis (d n : ℕ) (t : List Pauli) (rows : List Row) : Type 0 where
  pub legal : AllLegal d n rows
  pub does : tableau_of d n rows ≡ t
  pub short : length rows ≤ 5 * (n * n) + 6 * n

-- a state with its rows forgotten
start_reached : {d n : ℕ} {t : List Pauli} → 1 < d → WellFormed d n t → Sound d n t → Reached d n t (start t)
start_reached one formed sound = record { large = one; legal = none; forth = sym (map_same (λ p a. refl) formed.ranges); formed = formed; sound = sound }

restart : {d n j : ℕ} {t₀ : List Pauli} {s : State} → Base d n t₀ j s → Base d n s.tableau j (start s.tableau)
restart b = record { reached = start_reached b.reached.large b.reached.formed b.reached.sound; in_time = b.in_time; done_x = b.done_x; done_z = b.done_z }

module _ {d n : ℕ} {t : List Pauli} (one : 1 < d) (formed : WellFormed d n t) (sound : Sound d n t) where
  start_base : Base d n t 0 (start t)
  start_base = record {
    reached = start_reached one formed sound;
    in_time = omega arith;
    done_x = λ k l. absurd (not-suc-le-zero l);
    done_z = λ k l. absurd (not-suc-le-zero l);
  }

  -- the pivot of stage j is a unit
  pub stage_unit : (j : ℕ) → j < n → IsUnit d (v_at n (gathered d n j (start (each (stage d n) (up_from 0 j) (start t)).tableau)) j j)
  stage_unit j jn = pivot_unit one jn (start (each (stage d n) (up_from 0 j) (start t)).tableau) (restart (stages_law one (start t) start_base j (omega arith)))

  -- the state at the end
  reduced : Phased d n t n (reduce d n (start t))
  unfolding reduce
  reduced = phases_law one (each (stage d n) (up_from 0 n) (start t)) (stages_law one (start t) start_base n (omega arith))

  -- what the undo rows weigh
  pub weighs : (w : Row → ℕ) {a : ℕ → ℕ → ℕ} {o q : ℕ} → Costs d n t (λ r. w (undo d r)) a o q → weigh w (synthesised d n t) ≤ q * (n * n) + 6 * o * n + 3 * pairs a 0 n
  unfolding synthesised
  weighs w h = omega (arith, weigh_map w (undo d) (reduce d n (start t)).rows, (reduce_adds h one (start t) start_base).most)

  pub length_at : length (synthesised d n t) ≤ 3 * (n * n) + 6 * n + 3 * tri n
  length_at = omega (arith, weigh_ones (synthesised d n t), weighs (λ r. 1) (costs (ones d (omega arith))), pairs_const 1 0 n)

  pub reduced_units : (reduce d n (start t)).tableau ≡ units n
  reduced_units = phased_units reduced

  pub synthesis : Synthesis d n t (synthesised d n t)
  unfolding synthesised
  synthesis =
      let rows = (reduce d n (start t)).rows in
      let back = run d (map (undo d) rows) in
      let h = reduced.base.reached in
      record {
        legal = undo_legal one h.legal;
        does =
            ap (map back) (sym reduced_units ∙ h.forth)
            ∙ map-map back (run_last d rows) t
            ∙ map_same (λ p a. run_undoes one h.legal a) formed.ranges;
        short = omega (arith, length_at, tri_twice n);
      }
