-- `text::printing::print_column`'s loop. The invariant: the numbers passed are written, each with its comma.
use Rattle.std.proofs.Common.{◌+◌, ◌*◌, ◌≤◌}
use Rattle.arith.specs.Bytes.{tab, number_at}
use Rattle.text.specs.Inner.Prints.{PutsText}
use Rattle.text.proofs.Sound.{commas}
use Rattle.text.proofs.printing.print_column.Given as goal

abbrev pub invariant-loop-i : goal.invariant-loop-i
invariant-loop-i l = record {
  room : l.next ≤ l.at + 6 * l.i;
  puts : PutsText l.initial.out l.at (commas (tab (number_at l.numbers) l.i)) l.next l.out;
}
