-- `arith::divisor::search`: the numbers kept are a + m·b and a − m·b modulo d for the m tried last, and none of 0, 1, −1, .., m, −m fits: these are the candidates at
-- the places up to 2·m, so that 2·m + 1 stays below d, since a candidate at a place below d fits. The distance to d falls.
use Rattle.std.proofs.Common.{◌≡◌, ℕ, ◌+◌, ◌*◌, ◌-◌, ◌%◌, ◌<◌}
use mathlib.Core.Bool.{not}
use lib.Dec.{T}
use Rattle.arith.proofs.Units.{fits_at}
use Rattle.arith.proofs.divisor.search.Given as goal

-- what holds after m and −m were tried
pub record Tried (d a b m up down : ℕ) : Type 0 where
  pub up_sum : up ≡ (a + m * b) % d
  pub down_sum : down ≡ (a + m * (d - b)) % d
  pub none_before : (j : ℕ) → j < 2 * m + 1 → T (not (fits_at d a b j))

abbrev pub invariant-loop-b : goal.invariant-loop-b
invariant-loop-b l = Tried l.d l.fn.a.0 l.b.0 l.m l.up.0 l.down.0

abbrev pub decreases-loop-b : goal.decreases-loop-b
decreases-loop-b l = l.d - l.m
