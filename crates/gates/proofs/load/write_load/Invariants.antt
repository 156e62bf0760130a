-- `gates::load::write_load`: the rows made so far are written, and those from the draws' state on are left.
use Rattle.gates.proofs.Loads.{Loading}
use Rattle.gates.proofs.load.write_load.Given as goal

abbrev pub invariant-loop-r : goal.invariant-loop-r
invariant-loop-r l = Loading l.d l.n l.fn.seed l.initial.out l.r l.draws.state l.out
