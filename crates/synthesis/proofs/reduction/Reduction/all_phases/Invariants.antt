-- The invariant: the phases of the columns before i and n + i are cleared.
use Prim.Native.Nat.{◌*◌}
use Rattle.synthesis.specs.Inner.Reduce.{phases}
use Rattle.synthesis.specs.Inner.Did.{Did}
use Rattle.synthesis.proofs.Progress.{up_to}
use Rattle.synthesis.proofs.reduction.Reduction.all_phases.Given as goal

abbrev pub invariant-loop-i : goal.invariant-loop-i
invariant-loop-i g l = Did g.C.Columns.held (2 * l.i) (λ d n. up_to (phases d n) 0 l.i) l.initial.self l.self
