-- `tableau::column::Table::write_images` meets its contract: the images, by the numbers of their Paulis.
use Rattle.std.proofs.Common.{◌/◌, length, rules}
use Rattle.pauli.specs.Bytes.{pauli_bytes}
use Rattle.tableau.specs.Tableau.{image}
use Rattle.tableau.specs.Bytes.{column_at}
use Rattle.tableau.specs.Inner.View.{table_view}
use Rattle.arith.proofs.Bytes.{tab_map}
use Rattle.tableau.proofs.column.Table.write_images.Goals as goal

pub returns : goal.returns
returns c =
    let a = c.args in
    let t = table_view a.n a.self.now in
    rw (tab_map (image a.d a.n t) (λ j. column_at a.n j a.batch.now) (length a.batch.now / pauli_bytes a.n)) (rw c.value.ensures.value at (c.write_paulis.ensures (λ j. image a.d a.n t (column_at a.n j a.batch.now)) (λ j p l q. search rules)))
