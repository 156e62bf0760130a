-- `text::printing::print_number` calls itself on x / 10, which is below x.
use Rattle.text.proofs.printing.+print_number.Given as goal

abbrev pub decreases-print_number : goal.decreases-print_number
decreases-print_number l = l.x
