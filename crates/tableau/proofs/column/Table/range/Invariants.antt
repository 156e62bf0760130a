-- The columns from j on decide.
use Rattle.std.proofs.Common.{◌≡◌, drop}
use Rattle.tableau.specs.Range.{tableau_range_of}
use Rattle.tableau.specs.Inner.View.{table_view}
use Rattle.tableau.proofs.column.Table.range.Given as goal

abbrev pub invariant-loop-j : goal.invariant-loop-j
invariant-loop-j l = tableau_range_of l.d (table_view l.n l.self) ≡ tableau_range_of l.d (drop l.j (table_view l.n l.self))
