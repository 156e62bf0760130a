-- `tableau::column::Table::range` meets its contract: column j, then those after it.
use Rattle.std.proofs.Common.{arith, rules}
use Rattle.tableau.specs.Inner.View.{table_view}
use Rattle.tableau.proofs.Loops.{ranges_refuse, ranges_pass_one, ranges_pass_all}
use Rattle.tableau.proofs.Views.{table_length}
use Rattle.tableau.proofs.column.Table.range.Goals as goal

pub returns-in_err-range : goal.returns-in_err-range
returns-in_err-range c =
    let a = c.args in
    let refused = ranges_refuse a.d a.n (table_view a.n a.self.now) c.loop-j.j (omega (arith, table_length a.n a.self.now)) c.loop-j.invariant (rw c.column.ensures.value at c.range.ensures) c.in_err-range.was in
    search rules

pub loop-j-preserved : goal.loop-j-preserved
loop-j-preserved c =
    let a = c.args in
    ranges_pass_one a.d a.n (table_view a.n a.self.now) c.loop-j.j (omega (arith, table_length a.n a.self.now)) c.loop-j.invariant (rw c.column.ensures.value at c.range.ensures) c.in_ok-range.was

pub returns : goal.returns
returns c = ranges_pass_all c.args.d (table_view c.args.n c.args.self.now) c.loop-j.j (omega (arith, table_length c.args.n c.args.self.now)) c.loop-j.invariant
