-- The largest number so far is out of range where one of those passed is.
use Rattle.std.proofs.Common.{◌≡◌}
use Rattle.arith.specs.Refusals.{or_else, range_of}
use Rattle.pauli.specs.Range.{bounds_of}
use Rattle.pauli.specs.Inner.View.{entries}
use Rattle.pauli.proofs.arrays.bounds.Given as goal

abbrev pub invariant-loop-i : goal.invariant-loop-i
invariant-loop-i l = range_of l.d l.top ≡ or_else (bounds_of l.d (entries l.i l.v)) (bounds_of l.d (entries l.i l.w))
