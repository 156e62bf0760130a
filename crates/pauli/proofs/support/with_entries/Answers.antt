-- `pauli::support::with_entries` meets its contract: bit i changed (`word_changed`).
use Rattle.std.proofs.Common.{arith}
use Rattle.pauli.proofs.Words.{word_changed}
use Rattle.pauli.proofs.support.with_entries.Goals as goal

pub returns : goal.returns
returns c ms below l e = rw (e, c.mark.ensures.0) (word_changed 16 _ _ below (rw c.mark.ensures.0 at c.mark.ensures.1) l (omega arith))
