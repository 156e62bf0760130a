-- The entries filled are those that the closure gives, and the word is theirs (`Filled`).
use Rattle.pauli.specs.Inner.View.{Gives}
use Rattle.pauli.proofs.Entries.{Filled}
use Rattle.pauli.proofs.Pauli.from_entries.Given as goal

abbrev pub invariant-loop-i : goal.invariant-loop-i
invariant-loop-i g l = Filled (Gives l.fn.n (goal.F-post g l.entries)) l.i l.v l.w l.word
