-- `pauli::support::word_from`. The invariant: the word is that of the qudits passed.
use Rattle.std.proofs.Common.{◌≡◌, ◌+◌, get_or}
use Rattle.arith.specs.Bytes.{tab}
use Rattle.pauli.specs.Support.{marks, word_of}
use Rattle.pauli.proofs.support.word_from.Given as goal

abbrev pub invariant-loop-i : goal.invariant-loop-i
invariant-loop-i l = l.word ≡ word_of (marks (tab (λ j. get_or l.a (l.v + j) 0) l.i) (tab (λ j. get_or l.a (l.w + j) 0) l.i))
