-- `gates::load::unit_from`: the first unit from the number at hand on is that from k on. The distance to d falls.
use Rattle.std.proofs.Common.{◌≡◌, ◌-◌, ◌<◌}
use Rattle.gates.specs.Load.{unit_from}
use Rattle.gates.proofs.load.unit_from.Given as goal

abbrev pub invariant-loop-d : goal.invariant-loop-d
invariant-loop-d l = (l.power < l.d) × (unit_from l.d l.power ≡ unit_from l.d l.fn.k)

abbrev pub decreases-loop-d : goal.decreases-loop-d
decreases-loop-d l = l.d - l.power
