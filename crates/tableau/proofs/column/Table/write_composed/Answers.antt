-- `tableau::column::Table::write_composed` meets its contract: the columns, by their numbers (`compose_table`).
use Rattle.std.proofs.Common.{◌*◌, rules}
use Rattle.tableau.specs.Tableau.{column, image}
use Rattle.tableau.specs.Inner.View.{table_view}
use Rattle.tableau.proofs.Loops.{compose_table}
use Rattle.tableau.proofs.Views.{table_length}
use Rattle.tableau.proofs.column.Table.write_composed.Goals as goal

pub returns : goal.returns
returns c =
    let a = c.args in
    let t = table_view a.n a.self.now in
    let u = table_view a.n a.second.now in
    rw (compose_table a.d a.n (2 * a.n) t u (table_length a.n a.self.now)) (rw c.value.ensures.value at (c.write_paulis.ensures (λ j. image a.d a.n u (column a.n t j)) (λ j p l q. search rules)))
