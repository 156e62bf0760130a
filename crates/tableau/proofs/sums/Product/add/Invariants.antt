-- The places before i are added, the others are as they were.
use Rattle.std.proofs.Common.{◌≡◌, ◌*◌}
use Rattle.pauli.specs.Inner.View.{at}
use Rattle.tableau.proofs.Unreduced.{Growing}
use Rattle.tableau.proofs.sums.Product.add.Given as goal

abbrev pub invariant-loop-i : goal.invariant-loop-i
invariant-loop-i l = record {
  phase : l.self.phase ≡ l.fn.self.phase;
  v : Growing (λ j. l.k.0 * at l.c.v j) l.i l.fn.self.v l.self.v;
  w : Growing (λ j. l.k.0 * at l.c.w j) l.i l.fn.self.w l.self.w;
}
