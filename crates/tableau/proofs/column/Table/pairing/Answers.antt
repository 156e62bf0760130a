-- `tableau::column::Table::pairing` meets its contract: the closure answers the test of a column with every later one.
use Rattle.std.proofs.Common.{◌≡◌, ◌*◌, refl, rules}
use borrow.Author.Tests.{tests}
use Rattle.arith.specs.Refusals.{pairing_of}
use Rattle.tableau.specs.Inner.View.{table_view}
use Rattle.tableau.specs.Soundness.{later_pass, pairing_holds}
use Rattle.tableau.proofs.Loops.{all_from_zero}
use Rattle.tableau.proofs.column.Table.pairing.Goals.{After-all-paired}
use Rattle.tableau.proofs.column.Table.pairing.Goals as goal

paired : (c : After-all-paired) → c.all-paired.result ≡ pairing_holds c.args.d c.args.n (table_view c.args.n c.args.self.now)
paired c =
    let a = c.args in
    all_from_zero (later_pass a.d a.n (table_view a.n a.self.now)) (2 * a.n) _ _ c.all-paired.result c.all-paired.ensures.ran (rw c.value.ensures.value refl) (λ x b q k. search (rules, tests))

pub returns : goal.returns
unfolding pairing_of
returns c = let e = paired (goal.at.returns c).After-all-paired in search rules
