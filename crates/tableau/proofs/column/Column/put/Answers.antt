-- `tableau::column::Column::put` meets its contract: what the row makes of the numbers that it touches is put in their place.
use Rattle.std.proofs.Common.{sym, ap, ◌∙◌, ℕ}
use Rattle.pauli.specs.Inner.Touched.{view_touched, touched, replaced}
use Rattle.gates.specs.Inner.View.{view_row}
use Rattle.tableau.specs.Inner.View.{column_view}
use Rattle.tableau.proofs.Changing.{row_qudits, row_behind}
use Rattle.tableau.proofs.column.Column.put.Goals as goal

pub returns : goal.returns
returns g c n legal =
    let a = c.args in
    let p = column_view n a.self.now in
    let at = c.requires.places.1 in
    let inside = row_qudits a.d n (view_row a.row.row) legal at.1 in
    row_behind a.d n (view_row a.row.row) legal at.1 a.self.now c.act.ensures
    (ap (λ (i : ℕ). touched i a.j p) (sym at.0) ∙ c.touched.ensures n (rw at.0 inside.0) inside.1)
    (c.replace.ensures n ∙ ap (λ (i : ℕ). replaced i a.j (view_touched c.act.result) p) at.0)
