-- The row is behind the columns before `at`, the others are as they were, and `rest` has the bits of those.
use Rattle.std.proofs.Common.{◌*◌, ◌-◌}
use Rattle.gates.specs.Row.{apply}
use Rattle.gates.specs.Written.{meant}
use Rattle.gates.specs.Inner.View.{view_row}
use Rattle.tableau.proofs.Changing.{Going}
use Rattle.tableau.proofs.column.Table.put_ready.Given as goal

abbrev pub invariant-loop-rest : goal.invariant-loop-rest
invariant-loop-rest g l = Going l.d l.fn.n l.i l.j (apply l.d (meant (view_row l.row.row))) l.fn.self l.rest l.at l.self

abbrev pub decreases-loop-rest : goal.decreases-loop-rest
decreases-loop-rest g l = 2 * l.fn.n - l.at
