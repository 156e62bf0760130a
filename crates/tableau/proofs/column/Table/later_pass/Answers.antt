-- `tableau::column::Table::later_pass` meets its contract: the closure answers the test.
use Rattle.std.proofs.Common.{suc, ◌*◌, add-one, refl, rules}
use borrow.Author.Tests.{tests}
use Rattle.tableau.specs.Inner.View.{table_view}
use Rattle.tableau.specs.Soundness.{pair_passes}
use Rattle.tableau.proofs.Loops.{all_tested}
use Rattle.tableau.proofs.column.Table.later_pass.Goals as goal

pub returns : goal.returns
returns c =
    let a = c.args in
    all_tested (pair_passes a.d a.n (table_view a.n a.self.now) a.j) (suc a.j) (2 * a.n) _ _ c.all.result c.all.ensures.ran (rw (c.value.ensures.value, add-one) refl) (λ x b q k. search (rules, tests))
