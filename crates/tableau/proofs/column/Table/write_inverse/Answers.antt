-- `tableau::column::Table::write_inverse` meets its contract: the columns, by their numbers (`inverse_table`).
use Rattle.std.proofs.Common.{rules}
use Rattle.pauli.specs.Pauli.{unit}
use Rattle.tableau.specs.Inverse.{preimage}
use Rattle.tableau.specs.Inner.View.{table_view}
use Rattle.tableau.proofs.Loops.{inverse_table}
use Rattle.tableau.proofs.column.Table.write_inverse.Goals as goal

pub returns : goal.returns
returns c =
    let a = c.args in
    let t = table_view a.n a.self.now in
    rw (inverse_table a.d a.n t) (rw c.value.ensures.value at (c.write_paulis.ensures (λ j. preimage a.d a.n t (unit a.n j)) (λ j p l q. search rules)))
