-- `arith::divisor::euclid`: the common divisor of x and y is that of a and d, a·s is x and a·t is y modulo d, and s, t are residues. x falls as in Euclid's algorithm.
use Rattle.std.proofs.Common.{◌≡◌, ℕ, ◌*◌, ◌<◌}
use Rattle.arith.specs.Gcd.{gcd}
use Rattle.arith.proofs.Cong.{Cong}
use Rattle.arith.proofs.divisor.euclid.Given as goal

-- what holds at each turn
pub record Turn (d a x y s t : ℕ) : Type 0 where
  pub divisor : gcd x y ≡ gcd a d
  pub of_x : Cong d (a * s) x
  pub of_y : Cong d (a * t) y
  pub s_below : s < d
  pub t_below : t < d

abbrev pub invariant-loop-x : goal.invariant-loop-x
invariant-loop-x l = Turn l.d l.fn.a.0 l.x l.y l.s.0 l.t.0

abbrev pub decreases-loop-x : goal.decreases-loop-x
decreases-loop-x l = l.x
