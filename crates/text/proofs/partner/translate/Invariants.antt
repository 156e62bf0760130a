-- `text::partner::translate`'s loop. The invariant: the rows passed are translated, and the others are as they were.
use Rattle.text.proofs.Translate.{Partly}
use Rattle.text.proofs.partner.translate.Given as goal

abbrev pub invariant-loop-r : goal.invariant-loop-r
invariant-loop-r l = Partly l.d l.r l.initial.list l.list
