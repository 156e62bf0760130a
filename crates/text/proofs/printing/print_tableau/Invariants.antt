-- `text::printing::print_tableau`'s loop. The invariant: after the header the columns passed are written, with at most six bytes for each number.
use Rattle.std.proofs.Common.{◌≡◌, ◌+◌, ◌*◌, ◌≤◌, length}
use Rattle.text.specs.Format.{concatenated, column_line}
use Rattle.text.specs.Inner.Prints.{PutsText, columns_at}
use Rattle.text.proofs.Columns.{Left}
use Rattle.text.proofs.printing.print_tableau.Given as goal

abbrev pub invariant-loop-column : goal.invariant-loop-column
invariant-loop-column l = record {
  size : l.column-iterator.size ≡ 2 * (1 + l.count);
  left : Left l.b (1 + l.count) l.count (length l.yielded) l.column-iterator.rest.now;
  room : l.next ≤ l.initial.next + 6 * (length l.yielded * (1 + l.count));
  puts : PutsText l.initial.out l.initial.next (concatenated column_line (columns_at l.b (1 + l.count) (length l.yielded))) l.next l.out;
}
