-- `arith::divisor::common_divisor`: the gcd of the two numbers at hand is that of the two passed. The first falls.
use Rattle.std.proofs.Common.{◌≡◌}
use Rattle.arith.specs.Gcd.{gcd}
use Rattle.arith.proofs.divisor.common_divisor.Given as goal

abbrev pub invariant-loop-x : goal.invariant-loop-x
invariant-loop-x l = gcd l.x l.y ≡ gcd l.fn.a l.fn.b

abbrev pub decreases-loop-x : goal.decreases-loop-x
decreases-loop-x l = l.x
