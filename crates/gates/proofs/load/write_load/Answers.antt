-- `gates::load::write_load` meets its contract: none is written, one more, and all.
use native.Mathlib.Omega.{arith}
use Rattle.gates.proofs.Loads.{loading_start, loading_next, loading_end}
use Rattle.gates.proofs.load.write_load.Goals as goal

pub loop-r-init : goal.loop-r-init
loop-r-init c = loading_start _ _ _ _

pub loop-r-preserved : goal.loop-r-preserved
loop-r-preserved c = loading_next _ _ _ _ c.loop-r.invariant c.row.ensures.row c.row.ensures.state c.write_row.ensures

pub returns : goal.returns
returns c = loading_end _ _ _ _ c.args.count (omega arith) c.requires.room c.loop-r.invariant
