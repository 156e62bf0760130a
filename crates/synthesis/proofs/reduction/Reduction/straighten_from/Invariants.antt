-- The invariant: the column is straightened before j.
use Prim.Native.Nat.{◌*◌, ◌-◌}
use Rattle.synthesis.specs.Inner.Reduce.{straighten}
use Rattle.synthesis.specs.Inner.Did.{Did}
use Rattle.synthesis.proofs.Progress.{up_to}
use Rattle.synthesis.proofs.reduction.Reduction.straighten_from.Given as goal

abbrev pub invariant-loop-j : goal.invariant-loop-j
invariant-loop-j g l = Did g.C.Columns.held (3 * (l.j - l.from)) (λ d n. up_to (straighten d n l.c) l.from l.j) l.initial.self l.self
