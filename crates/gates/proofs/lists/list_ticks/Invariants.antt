-- `gates::lists::list_ticks`: the array has the last tick of each qudit after the rows passed, and the number beside it is their highest tick.
use Rattle.std.proofs.Common.{map}
use Rattle.arith.specs.Bytes.{tab}
use Rattle.gates.specs.Written.{meant, row_at}
use Rattle.gates.proofs.LastTicks.{Running}
use Rattle.gates.proofs.lists.list_ticks.Given as goal

abbrev pub invariant-loop-r : goal.invariant-loop-r
invariant-loop-r l = Running (map meant (tab (row_at l.list) l.r)) l.last l.highest
