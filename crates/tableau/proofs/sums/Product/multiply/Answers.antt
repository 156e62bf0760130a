-- `tableau::sums::Product::multiply` meets its contract: entries below d are small (`column_small`).
use Rattle.std.proofs.Common.{arith}
use Rattle.tableau.proofs.Unreduced.{column_small}
use Rattle.tableau.proofs.sums.Product.multiply.Goals as goal

pub own_twist-own-requires : goal.own_twist-own-requires
own_twist-own-requires c = column_small c.args.c.now (omega arith) c.requires.in_range.0

pub cross_twist-cross-requires : goal.cross_twist-cross-requires
cross_twist-cross-requires c = column_small c.args.c.now (omega arith) c.requires.in_range.0

pub add-requires-clause-width : goal.add-requires-clause-width
add-requires-clause-width c = column_small c.args.c.now (omega arith) c.requires.in_range.0
