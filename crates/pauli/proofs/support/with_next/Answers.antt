-- `pauli::support::with_next` meets its contract: one more bit, on top (`word_or`).
use Rattle.std.proofs.Common.{arith}
use Rattle.pauli.proofs.Words.{word_or}
use Rattle.pauli.proofs.support.with_next.Goals as goal

pub returns : goal.returns
returns c ms below l e = rw (e, c.mark.ensures.0) (word_or 16 _ below (rw c.mark.ensures.0 at c.mark.ensures.1) l (omega arith))
