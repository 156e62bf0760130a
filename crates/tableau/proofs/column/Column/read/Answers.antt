-- `tableau::column::Column::read` meets its contract: after the last place all are filled.
use Rattle.std.proofs.Common.{◌≡◌, arith}
use Rattle.pauli.proofs.Ranges.{pauli_path}
use Rattle.tableau.specs.Inner.View.{column_view}
use Rattle.tableau.proofs.column.Column.read.Goals as goal

pub returns : goal.returns
unfolding column_view
returns c =
    let l = c.loop-i in
    let e : l.i ≡ c.args.n = omega arith in
    pauli_path l.invariant.phase (rw e at l.invariant.v) (rw (e, c.value-m.ensures.value) at l.invariant.w)
