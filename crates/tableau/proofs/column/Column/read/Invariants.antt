-- The phase is in its place, and the places before i are filled.
use Rattle.std.proofs.Common.{◌≡◌, ◌+◌}
use Rattle.arith.specs.Bytes.{tab, number_at}
use Rattle.pauli.specs.Inner.View.{entries}
use Rattle.tableau.proofs.column.Column.read.Given as goal

abbrev pub invariant-loop-i : goal.invariant-loop-i
invariant-loop-i l = record {
  phase : l.self.phase.0 ≡ number_at l.b l.k;
  v : entries l.i l.self.v ≡ tab (λ j. number_at l.b (l.k + 1 + j)) l.i;
  w : entries l.i l.self.w ≡ tab (λ j. number_at l.b (l.k + 1 + l.m + j)) l.i;
}
