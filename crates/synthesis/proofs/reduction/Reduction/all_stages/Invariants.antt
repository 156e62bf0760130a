-- The invariant: the stages before q are done, and the rows of the others find room.
use Prim.Native.Nat.{◌+◌, ◌-◌, ◌≤◌}
use Rattle.synthesis.specs.Inner.Reduce.{stage}
use Rattle.synthesis.specs.Inner.Did.{Did}
use Rattle.synthesis.proofs.Progress.{up_to}
use Rattle.synthesis.proofs.Stages.{stage_rows}
use Rattle.synthesis.proofs.reduction.Reduction.all_stages.Given as goal

abbrev pub invariant-loop-q : goal.invariant-loop-q
invariant-loop-q g l =
    let r = l.initial.self in
    let n = (g.C.Columns.held r.columns).n in
    record {
      room : l.self.count + stage_rows (n - l.q) ≤ r.count + stage_rows n;
      did : Did g.C.Columns.held (stage_rows n) (λ d n. up_to (stage d n) 0 l.q) r l.self;
    }
