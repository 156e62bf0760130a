-- `text::printing::print_list`'s loop. The invariant: after the header the rows passed are written, with at most 20 bytes for each.
use Rattle.std.proofs.Common.{◌≡◌, List, ◌+◌, ◌*◌, ◌≤◌, ◌++◌, length}
use Rattle.gates.specs.Written.{WrittenRow, list_rows}
use Rattle.text.specs.Format.{concatenated, row_line}
use Rattle.text.specs.Inner.Prints.{PutsText}
use Rattle.text.proofs.printing.print_list.Given as goal

abbrev pub invariant-loop-row : goal.invariant-loop-row
invariant-loop-row l = record {
  size : l.row-iterator.size ≡ 8;
  passed : List WrittenRow;
  left : list_rows l.list ≡ passed ++ list_rows l.row-iterator.rest.now;
  room : l.next ≤ l.initial.next + 20 * length passed;
  puts : PutsText l.initial.out l.initial.next (concatenated row_line passed) l.next l.out;
}
