-- `pauli::support::word_of`. The invariant: the word is that of the qudits passed.
use Rattle.std.proofs.Common.{◌≡◌}
use Rattle.pauli.specs.Support.{marks, word_of}
use Rattle.pauli.specs.Inner.View.{entries}
use Rattle.pauli.proofs.support.word_of.Given as goal

abbrev pub invariant-loop-i : goal.invariant-loop-i
invariant-loop-i l = l.word ≡ word_of (marks (entries l.i l.v) (entries l.i l.w))
