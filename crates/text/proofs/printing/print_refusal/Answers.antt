-- `text::printing::print_refusal` meets its contract. Two bytes, and a field after them.
use Rattle.std.proofs.Common.{arith}
use Rattle.text.proofs.Writing.{puts_refusal}
use Rattle.text.proofs.printing.print_refusal.Goals as goal

pub returns : goal.returns
returns c = puts_refusal _ _ _ _ (omega arith) c.print_field.ensures.0
