-- `text::printing::print_header` meets its contract. Two bytes, and two fields after them.
use Rattle.std.proofs.Common.{arith}
use Rattle.text.proofs.Writing.{puts_header}
use Rattle.text.proofs.printing.print_header.Goals as goal

pub returns : goal.returns
returns c = (puts_header _ _ _ _ _ _ _ _ c.print_field-next.ensures.0 c.print_field.ensures.0, omega arith)
