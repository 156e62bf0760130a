-- The sum is the dot product of the entries passed, below 2³² for each.
use Rattle.std.proofs.Common.{◌≡◌, ◌*◌, ◌≤◌}
use Rattle.pauli.specs.Pauli.{dot}
use Rattle.pauli.specs.Inner.View.{entries}
use Rattle.pauli.proofs.arrays.sum_of_products.Given as goal

abbrev pub invariant-loop-i : goal.invariant-loop-i
invariant-loop-i l = (l.sum ≡ dot (entries l.i l.a) (entries l.i l.b)) × (l.sum ≤ 4294967296 * l.i)
