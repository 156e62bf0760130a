-- `text::printing::print_number` meets its contract: it calls itself on x / 10, which is below x, and writes the last digit after that.
use Rattle.std.proofs.Common.{arith}
use Rattle.text.proofs.Digits.{digits_length, one_digit}
use Rattle.text.proofs.Writing.{puts_digit, puts_digits}
use Rattle.text.proofs.printing.+print_number.Goals as goal

pub bounds-out-at : goal.bounds-out-at
bounds-out-at t c = omega (arith, one_digit _ c.if-x-lt10.true)

pub returns-then-x-lt10 : goal.returns-then-x-lt10
returns-then-x-lt10 t c = puts_digit _ _ _ c.if-x-lt10.true

pub print_number-next-requires : goal.print_number-next-requires
print_number-next-requires t c = (omega arith, omega (arith, digits_length _ c.if-x-lt10.false))

pub bounds-out-next : goal.bounds-out-next
bounds-out-next t c = omega (arith, digits_length _ c.if-x-lt10.false, c.print_number-next.ensures.ends)

pub overflow_add-result-2 : goal.overflow_add-result-2
overflow_add-result-2 t c = omega (arith, digits_length _ c.if-x-lt10.false, c.print_number-next.ensures.ends)

pub returns : goal.returns
returns t c = puts_digits _ _ _ _ _ c.if-x-lt10.false c.print_number-next.ensures
