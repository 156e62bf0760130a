-- `pauli::support::word_from` meets its contract: no qudit yet (`word_none`), and one more (`word_next`).
use Rattle.std.proofs.Common.{sym}
use Rattle.pauli.proofs.Marks.{word_none, word_next}
use Rattle.pauli.proofs.support.word_from.Goals as goal

pub loop-i-init : goal.loop-i-init
loop-i-init c = sym (word_none _ _)

pub loop-i-preserved : goal.loop-i-preserved
loop-i-preserved c = word_next _ _ c.loop-i.i _ _ c.lent-x.ensures c.lent-z.ensures c.loop-i.invariant c.with_next-word.ensures
