-- `tableau::column::Table::drawn` meets its contract: the pairs that the closure gives are the entries, by their numbers (`drawn_table`).
use Rattle.std.proofs.Common.{sym, ◌∙◌, rules}
use Rattle.pauli.specs.Inner.View.{view}
use Rattle.tableau.specs.Inner.View.{table_view}
use Rattle.tableau.proofs.Loops.{drawn_table}
use Rattle.tableau.proofs.column.Table.drawn.Goals as goal

pub returns-clause-value : goal.returns-clause-value
returns-clause-value c =
    let a = c.args in
    c.from_entries.ensures.value _ _ (λ i x z l p. search rules) ∙ sym (drawn_table a.d a.n (table_view a.n a.self.now) (view a.n a.q))
