-- `tableau::sums::Product::add` meets its contract: place i is added too.
use Rattle.std.proofs.Common.{arith}
use Rattle.tableau.proofs.Unreduced.{adding_more}
use Rattle.tableau.proofs.sums.Product.add.Goals as goal

pub loop-i-preserved : goal.loop-i-preserved
loop-i-preserved c =
    let a = c.args in
    let l = c.loop-i in
    let small = c.requires.width l.i (omega arith) in
    record {
      phase = l.invariant.phase;
      v = adding_more a.k.0 a.c.now.v l.i (omega arith) (omega arith) small.0 c.value.ensures l.invariant.v;
      w = adding_more a.k.0 a.c.now.w l.i (omega arith) (omega arith) small.1 c.value-in-loop-i.ensures l.invariant.w;
    }
