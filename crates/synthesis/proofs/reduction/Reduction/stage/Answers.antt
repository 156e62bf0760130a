-- `synthesis::reduction::Reduction::stage` meets its contract: its steps in turn.
use native.Mathlib.Omega.{arith}
use Rattle.synthesis.specs.Inner.Reduce.{stage}
use Rattle.synthesis.proofs.Did.{did_more, did_then}
use Rattle.synthesis.proofs.reduction.Reduction.stage.Goals as goal

pub returns : goal.returns
unfolding stage
returns g c = did_more (omega arith) (did_then (did_then c.unit_x.ensures c.clear_w.ensures) c.unit_z.ensures)
