-- The columns before j are read.
use Rattle.std.proofs.Common.{◌≡◌}
use Rattle.tableau.specs.Bytes.{column_at}
use Rattle.tableau.proofs.Views.{Changed}
use Rattle.tableau.proofs.column.Table.read.Given as goal

abbrev pub invariant-loop-j : goal.invariant-loop-j
invariant-loop-j l = Changed l.n (λ k p. p ≡ column_at l.n k l.b) l.j l.fn.self l.self
