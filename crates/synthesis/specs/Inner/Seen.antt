-- What the columns of the table stand for.
use Rattle.tableau.specs.Inner.View.{table_view}
use Rattle.synthesis.specs.Inner.Held.{Held}
use Rattle.synthesis.specs.declared.columns.QuditColumns.{QuditColumns}

abbrev pub seen : QuditColumns → Held
seen t = record { d = t.d; n = t.n; tableau = table_view t.n t.table }
