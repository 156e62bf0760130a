-- `tableau::output::write_tableau` meets its contract: one row more is put behind the columns (`rows_next`).
use Rattle.std.proofs.Common.{refl, rules}
use Rattle.tableau.proofs.Views.{fresh_column}
use Rattle.tableau.proofs.Run.{rows_none, rows_next}
use Rattle.tableau.proofs.output.write_tableau.Goals as goal

pub set_units-requires : goal.set_units-requires
set_units-requires c = record { zero = fresh_column c.args.list.now.n _ _ refl refl refl refl }

pub loop-r-init : goal.loop-r-init
loop-r-init c = search (rules, rows_none)

pub loop-r-preserved : goal.loop-r-preserved
loop-r-preserved c = search (rules, rows_next)
