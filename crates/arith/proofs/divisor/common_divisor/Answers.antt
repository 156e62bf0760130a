-- `arith::divisor::common_divisor` meets its contract: a step of Euclid's algorithm keeps the gcd, and gcd 0 y is y.
use Rattle.std.proofs.Common.{◌≡◌, ℕ, sym, ◌∙◌, ap, arith}
use Rattle.arith.specs.Gcd.{gcd}
use Rattle.arith.proofs.Gcd.{gcd_next, gcd_zero_left}
use Rattle.arith.proofs.divisor.common_divisor.Goals as goal

pub loop-x-preserved : goal.loop-x-preserved
loop-x-preserved c = sym (gcd_next c.loop-x.x c.loop-x.y (omega arith)) ∙ c.loop-x.invariant

pub returns : goal.returns
returns c = let e : c.loop-x.x ≡ 0 = omega arith in sym (gcd_zero_left c.loop-x.y) ∙ ap (λ (z : ℕ). gcd z c.loop-x.y) (sym e) ∙ c.loop-x.invariant
