-- `tableau::column::Table::write` meets its contract: the columns, by their numbers.
use Rattle.std.proofs.Common.{refl, rules}
use Rattle.tableau.specs.Tableau.{column}
use Rattle.tableau.specs.Inner.View.{table_view}
use Rattle.tableau.proofs.Views.{view_table}
use Rattle.tableau.proofs.column.Table.write.Goals as goal

pub returns : goal.returns
returns c =
    let a = c.args in
    rw (view_table a.n a.self.now _ (λ k h. refl)) (rw c.value.ensures.value at (c.write_paulis.ensures (column a.n (table_view a.n a.self.now)) (λ j p l q. search rules)))
