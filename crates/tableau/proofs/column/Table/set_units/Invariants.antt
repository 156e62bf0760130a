-- The columns before j are units, the others zeros.
use Rattle.std.proofs.Common.{◌≡◌}
use Rattle.pauli.specs.Pauli.{unit}
use Rattle.tableau.proofs.Views.{Changed}
use Rattle.tableau.proofs.column.Table.set_units.Given as goal

abbrev pub invariant-loop-j : goal.invariant-loop-j
invariant-loop-j l = Changed l.n (λ k p. p ≡ unit l.n k) l.j l.fn.self l.self
