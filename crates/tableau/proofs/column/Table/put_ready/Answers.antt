-- `tableau::column::Table::put_ready` meets its contract: the row is put behind the column of the lowest bit, and the bits after it are left.
use Rattle.std.proofs.Common.{refl, sym, ap, ◌∙◌, arith}
use Rattle.gates.specs.Row.{apply}
use Rattle.gates.specs.Written.{meant}
use Rattle.gates.specs.Inner.View.{view_row}
use Rattle.gates.proofs.Written.{legal_first, legal_second_lem}
use Rattle.tableau.proofs.Changing.{row_qudits, row_rests, row_next, going_more, going_end}
use Rattle.tableau.proofs.Views.{view_column}
use Rattle.tableau.proofs.column.Table.put_ready.Goals as goal

pub overflow_sub-i : goal.overflow_sub-i
overflow_sub-i g c = (legal_first _ _ _ c.requires.legal.0).0

pub other-j-requires-clause-from_one : goal.other-j-requires-clause-from_one
other-j-requires-clause-from_one g c = ((legal_first _ _ _ c.requires.legal.0).0, λ two. (legal_second_lem _ _ _ c.requires.legal.0 (c.requires.sort ∙ two)).0)

pub changing-rest-requires : goal.changing-rest-requires
changing-rest-requires g c = record { places = row_qudits c.args.d c.args.n (view_row c.args.row.row) c.requires.legal.0 c.other-j.ensures }

pub bounds-columns-at : goal.bounds-columns-at
bounds-columns-at g c =
    let next = row_next c.args.d c.args.n (view_row c.args.row.row) c.requires.legal.0 c.other-j.ensures c.changing-rest.ensures.few (omega arith) c.loop-rest.invariant in
    omega (arith, next.inside)

pub listed : goal.listed
listed g c =
    let next = row_next c.args.d c.args.n (view_row c.args.row.row) c.requires.legal.0 c.other-j.ensures c.changing-rest.ensures.few (omega arith) c.loop-rest.invariant in
    omega (arith, next.inside, c.loop-rest.self.size)

pub put-requires-clause-places : goal.put-requires-clause-places
put-requires-clause-places g c =
    let inside = row_qudits c.args.d c.args.n (view_row c.args.row.row) c.requires.legal.0 c.other-j.ensures in
    ((omega (arith, inside.0), omega (arith, inside.1)), (refl, c.other-j.ensures))

pub loop-rest-smaller : goal.loop-rest-smaller
loop-rest-smaller g c =
    let next = row_next c.args.d c.args.n (view_row c.args.row.row) c.requires.legal.0 c.other-j.ensures c.changing-rest.ensures.few (omega arith) c.loop-rest.invariant in
    omega (arith, next.inside)

pub loop-rest-preserved : goal.loop-rest-preserved
loop-rest-preserved g c =
    let a = c.args in
    let l = c.loop-rest in
    let w = view_row a.row.row in
    let next = row_next a.d a.n w c.requires.legal.0 c.other-j.ensures c.changing-rest.ensures.few (omega arith) l.invariant in
    let column = sym (view_column a.n l.self _ _ next.inside (omega (arith, next.inside))) ∙ next.columns.left _ (omega arith) in
    going_more _ _ _ _ _ _ l.self _ _ c.changing-rest.ensures.few next (c.put.ensures a.n c.requires.legal.0 ∙ ap (apply a.d (meant w)) column)

pub returns : goal.returns
returns g c =
    let a = c.args in
    going_end _ _ _ _ _ _ (row_rests a.d a.n (view_row a.row.row) c.requires.legal.0 c.other-j.ensures) (omega arith) c.loop-rest.invariant
