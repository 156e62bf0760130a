-- `tableau::column::Table::units` meets its contract: a fresh table has zeros.
use Rattle.std.proofs.Common.{refl}
use Rattle.tableau.proofs.Views.{fresh_column}
use Rattle.tableau.proofs.column.Table.units.Goals as goal

pub set_units-requires : goal.set_units-requires
set_units-requires c = record { zero = fresh_column c.args.n _ _ refl refl refl refl }
