-- The table holds what the rows passed make of the unit Paulis.
use Rattle.std.proofs.Common.{◌≡◌, map}
use Rattle.arith.specs.Bytes.{tab}
use Rattle.gates.specs.Row.{run}
use Rattle.gates.specs.Written.{meant, row_at}
use Rattle.tableau.specs.Tableau.{units}
use Rattle.tableau.specs.Inner.View.{table_view}
use Rattle.tableau.proofs.output.write_tableau.Given as goal

abbrev pub invariant-loop-r : goal.invariant-loop-r
invariant-loop-r l = table_view l.list.n l.t ≡ map (run l.list.d (map meant (tab (row_at l.list.bytes.now) l.r))) (units l.list.n)
