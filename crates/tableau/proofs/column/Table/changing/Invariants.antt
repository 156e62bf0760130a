-- The word is that of the columns passed.
use Rattle.std.proofs.Common.{◌≡◌}
use Rattle.arith.specs.Bytes.{tab}
use Rattle.pauli.specs.Support.{word_of}
use Rattle.tableau.specs.Tableau.{column}
use Rattle.tableau.specs.Inner.View.{table_view}
use Rattle.tableau.specs.Inner.Changing.{changing}
use Rattle.tableau.proofs.column.Table.changing.Given as goal

abbrev pub invariant-loop-c : goal.invariant-loop-c
invariant-loop-c l = l.word ≡ word_of (changing l.d l.i l.j (tab (column l.fn.n (table_view l.fn.n l.self)) l.c))
