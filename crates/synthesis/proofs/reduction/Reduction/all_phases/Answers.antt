-- `synthesis::reduction::Reduction::all_phases` meets its contract: the phases of two columns more.
use native.Mathlib.Omega.{arith}
use Rattle.synthesis.specs.Inner.Reduce.{phases}
use Rattle.synthesis.proofs.Did.{turns_more}
use Rattle.synthesis.proofs.reduction.Reduction.all_phases.Goals as goal

pub loop-i-preserved : goal.loop-i-preserved
loop-i-preserved g c = let l = c.loop-i in turns_more phases 0 l.i (omega arith) (omega (arith, c.clear_phases.ensures.does.within, l.invariant.does.within)) l.invariant c.clear_phases.ensures
