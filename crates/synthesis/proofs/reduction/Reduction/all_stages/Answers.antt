-- `synthesis::reduction::Reduction::all_stages` meets its contract: one stage more. The tableau is sound, so its pivot is a unit.
use mathlib.Core.Path.{sym, subst}
use Prim.Native.Nat.{ℕ, suc, ◌+◌, ◌*◌, ◌-◌, ◌≤◌}
use native.Mathlib.Omega.{arith}
use Rattle.arith.specs.Units.{IsUnit}
use Rattle.synthesis.specs.Inner.Reduce.{start, v_at, gathered, stage}
use Rattle.synthesis.proofs.Stages.{stage_part, stage_next, unit_at}
use Rattle.synthesis.proofs.Progress.{does_from}
use Rattle.synthesis.proofs.Did.{turns_more}
use Rattle.synthesis.proofs.reduction.Reduction.all_stages.Goals as goal

pub stage-requires-clause-unit : goal.stage-requires-clause-unit
stage-requires-clause-unit g c =
    let l = c.loop-q in
    let r = g.C.Columns.held c.args.self.now.columns in
    let h = l.invariant.did in
    let t = g.C.Columns.held l.self.columns in
    subst (λ (d : ℕ). IsUnit d (v_at t.n (gathered d t.n l.q (start t.tableau)) l.q l.q)) (sym h.modulus)
    (subst (λ (n : ℕ). IsUnit r.d (v_at n (gathered r.d n l.q (start t.tableau)) l.q l.q)) (sym h.width)
    (unit_at (omega arith) c.requires.sound.0 c.requires.sound.1 l.q (omega arith) (does_from h.does).tableau))

pub loop-q-preserved : goal.loop-q-preserved
loop-q-preserved g c =
    let l = c.loop-q in
    let h = l.invariant in
    let e = c.stage.ensures in
    let n = (g.C.Columns.held c.args.self.now.columns).n in
    let more : c.stage.new.self.count ≤ l.self.count + (9 * (n - suc l.q) + 7) = omega (arith, e.does.within, h.did.width) in
    let part = stage_part n l.q l.self.count _ (omega arith) h.room in
    record {
      room = stage_next n l.q l.self.count _ _ (omega arith) h.room more;
      did = turns_more stage 0 l.q (omega arith) (omega arith) h.did e;
    }
