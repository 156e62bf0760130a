-- The Paulis before j are written, whatever function gives those of the closure.
use Rattle.std.proofs.Common.{◌≡◌, ℕ, ◌<◌}
use Rattle.pauli.specs.Pauli.{Pauli}
use Rattle.pauli.specs.declared.Pauli.{Pauli as Code}
use Rattle.pauli.specs.Inner.View.{view}
use Rattle.tableau.proofs.Bytes.{PaulisWritten}
use Rattle.tableau.proofs.output.write_paulis.Given as goal

abbrev pub invariant-loop-j : goal.invariant-loop-j
invariant-loop-j g l = (f : ℕ → Pauli) → ((j : ℕ) (p : Code) → j < l.m → goal.F-post g l.make j p → view l.n p ≡ f j) → PaulisWritten l.n f l.fn.out l.out l.j
