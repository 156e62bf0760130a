-- What the code's tableau stands for: of its 32 columns the first 2n are in use, and of a column's v and w, 16 places each, the first n.
use Rattle.std.specs.Prelude.{List, ℕ, ◌*◌, map}
use Rattle.arith.specs.Bytes.{tab}
use Rattle.pauli.specs.Pauli.{Pauli}
use Rattle.pauli.specs.Inner.View.{entries}
use Rattle.tableau.specs.Tableau.{column}
use Rattle.tableau.specs.declared.column.Column.{Column}
use Rattle.tableau.specs.declared.column.Table.{Table}

unfoldable pub column_view : ℕ → Column → Pauli
column_view n c = record { phase = c.phase.0; v = entries n c.v; w = entries n c.w }

-- columns 0 to 2n − 1
unfoldable pub table_view : ℕ → Table → List Pauli
table_view n t = tab (column n (map (column_view n) t.columns)) (2 * n)
