-- The sum is the dot product of the places passed, below 2³²·1,023 for each.
use Rattle.std.proofs.Common.{◌≡◌, ◌*◌, ◌≤◌, get_or}
use Rattle.arith.specs.Bytes.{tab}
use Rattle.pauli.specs.Pauli.{dot}
use Rattle.pauli.specs.Inner.View.{entries}
use Rattle.tableau.proofs.sums.Product.cross_twist.Given as goal

abbrev pub invariant-loop-i : goal.invariant-loop-i
invariant-loop-i l = (l.sum ≡ dot (tab (λ j. get_or l.self.w j 0) l.i) (entries l.i l.c.v)) × (l.sum ≤ 4393751542785 * l.i)
