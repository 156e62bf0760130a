-- `synthesis::reduction::Reduction::clear_phases` meets its contract: its rows in turn.
use Rattle.synthesis.specs.Inner.Reduce.{clear_z, clear_x}
use Rattle.synthesis.proofs.Did.{did_then, did_make}
use Rattle.synthesis.proofs.reduction.Reduction.clear_phases.Goals as goal

pub returns : goal.returns
returns g c = let a = c.args in did_then (did_make (λ d n. clear_z d n a.i) c.clear_z-made.ensures c.put.ensures) (did_make (λ d n. clear_x d n a.i) c.clear_x-made.ensures c.put-2.ensures)
