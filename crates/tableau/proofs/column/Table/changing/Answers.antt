-- `tableau::column::Table::changing` meets its contract: one column more, one bit more (`changing_more`).
use Rattle.std.proofs.Common.{◌≡◌, ◌*◌, refl, sym, ap, ◌∙◌, List, arith}
use Rattle.arith.proofs.Bytes.{tab_none}
use Rattle.pauli.specs.Pauli.{Pauli}
use Rattle.pauli.specs.Support.{word_of}
use Rattle.tableau.specs.Tableau.{column}
use Rattle.tableau.specs.Inner.View.{table_view}
use Rattle.tableau.specs.Inner.Changing.{changes, changing}
use Rattle.tableau.proofs.Changing.{changing_more}
use Rattle.tableau.proofs.Views.{view_column, view_table}
use Rattle.tableau.proofs.column.Table.changing.Goals as goal

pub loop-c-init : goal.loop-c-init
loop-c-init c = let a = c.args in sym (ap (λ (t : List Pauli). word_of (changing a.d a.i a.j t)) (tab_none _))

pub loop-c-preserved : goal.loop-c-preserved
loop-c-preserved c =
    let a = c.args in
    let l = c.loop-c in
    changing_more a.d a.i a.j (column a.n (table_view a.n a.self.now)) l.c (omega arith) l.invariant
    (c.changes.ensures a.n c.requires.places.0 c.requires.places.1 ∙ ap (changes a.d a.i a.j) (sym (view_column a.n a.self.now l.c _ (omega arith) (omega arith))))

pub returns-clause-word : goal.returns-clause-word
returns-clause-word c =
    let a = c.args in
    let l = c.loop-c in
    let e : l.c ≡ 2 * a.n = omega arith in
    (rw e at l.invariant) ∙ ap (λ (t : List Pauli). word_of (changing a.d a.i a.j t)) (sym (view_table a.n a.self.now _ (λ k h. refl)))
