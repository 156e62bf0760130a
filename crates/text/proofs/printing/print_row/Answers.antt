-- `text::printing::print_row` meets its contract. Two bytes, and three fields after them.
use Rattle.std.proofs.Common.{arith, rules}
use Rattle.text.proofs.Letters.{letter_found}
use Rattle.text.proofs.Writing.{puts_row}
use Rattle.text.proofs.printing.print_row.Goals as goal

pub returns : goal.returns
returns c = (puts_row _ _ _ _ _ _ _ _ _ _ (letter_found _ _ _ c.try_from.ensures c.map_or.ensures (λ k p. search rules)) c.print_field-next.ensures.0 c.print_field-next-2.ensures.0 c.print_field.ensures.0, omega arith)
