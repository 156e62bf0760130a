-- `synthesis::reduction::Reduction::straighten_from` meets its contract: one qudit more.
use native.Mathlib.Omega.{arith}
use Rattle.synthesis.specs.Inner.Reduce.{straighten}
use Rattle.synthesis.proofs.Did.{turns_more}
use Rattle.synthesis.proofs.reduction.Reduction.straighten_from.Goals as goal

pub loop-j-preserved : goal.loop-j-preserved
loop-j-preserved g c = let a = c.args in let l = c.loop-j in turns_more (λ d n. straighten d n a.c) a.from l.j (omega arith) (omega (arith, c.straighten.ensures.does.within, l.invariant.does.within)) l.invariant c.straighten.ensures
