-- `text::printing::print_field` meets its contract. A number of at most five digits, and a byte after it.
use Rattle.std.proofs.Common.{arith}
use Rattle.text.proofs.Writing.{puts_last}
use Rattle.text.proofs.Digits.{five_digits}
use Rattle.text.proofs.printing.print_field.Goals as goal

pub print_number-next-requires : goal.print_number-next-requires
print_number-next-requires c = omega (arith, five_digits c.args.x (omega arith))

pub bounds-out-next : goal.bounds-out-next
bounds-out-next c = omega (arith, five_digits c.args.x (omega arith))

pub overflow_add-result : goal.overflow_add-result
overflow_add-result c = omega (arith, five_digits c.args.x (omega arith))

pub returns : goal.returns
returns c = (puts_last _ _ _ _ _ _ c.print_number-next.ensures, omega (arith, five_digits c.args.x (omega arith)))
