-- The sum is the dot product of the entries passed, at most 65,535·1,023 for each.
use Rattle.std.proofs.Common.{◌≡◌, ◌*◌, ◌≤◌}
use Rattle.pauli.specs.Pauli.{dot}
use Rattle.pauli.specs.Inner.View.{entries}
use Rattle.tableau.proofs.column.Column.own_twist.Given as goal

abbrev pub invariant-loop-i : goal.invariant-loop-i
invariant-loop-i l = (l.sum ≡ dot (entries l.i l.self.w) (entries l.i l.self.v)) × (l.sum ≤ 67042305 * l.i)
