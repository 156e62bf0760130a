-- `pauli::bytes::word_at`. The invariant: the word is that of the qudits passed.
use Rattle.std.proofs.Common.{◌≡◌, ◌+◌}
use Rattle.arith.specs.Bytes.{numbers_at}
use Rattle.pauli.specs.Support.{marks, word_of}
use Rattle.pauli.proofs.bytes.word_at.Given as goal

abbrev pub invariant-loop-i : goal.invariant-loop-i
invariant-loop-i l = l.word ≡ word_of (marks (numbers_at l.b l.k l.i) (numbers_at l.b (l.k + l.m) l.i))
