-- `tableau::column::Table::parity` meets its contract: the closure answers the test of a column.
use Rattle.std.proofs.Common.{◌≡◌, ◌*◌, refl, rules}
use borrow.Author.Tests.{tests}
use Rattle.arith.specs.Refusals.{parity_of}
use Rattle.tableau.specs.Inner.View.{table_view}
use Rattle.tableau.specs.Soundness.{even_passes, parity_holds}
use Rattle.tableau.proofs.Loops.{all_from_zero}
use Rattle.tableau.proofs.column.Table.parity.Goals.{After-all-even}
use Rattle.tableau.proofs.column.Table.parity.Goals as goal

even : (c : After-all-even) → c.all-even.result ≡ parity_holds c.args.d c.args.n (table_view c.args.n c.args.self.now)
even c =
    let a = c.args in
    all_from_zero (even_passes a.d a.n (table_view a.n a.self.now)) (2 * a.n) _ _ c.all-even.result c.all-even.ensures.ran (rw c.value.ensures.value refl) (λ x b q k. search (rules, tests))

pub returns : goal.returns
unfolding parity_of
returns c = let e = even (goal.at.returns c).After-all-even in search rules
