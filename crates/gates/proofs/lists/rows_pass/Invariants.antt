-- `gates::lists::rows_pass`: all rows pass if the rows that are left do.
use Rattle.std.proofs.Common.{◌≡◌, Bool}
use Rattle.gates.specs.Written.{WrittenRow, all_rows, list_rows}
use Rattle.gates.specs.Inner.View.{Code, view_row}
use Rattle.gates.proofs.lists.rows_pass.Given as goal

abbrev pub invariant-loop-row : goal.invariant-loop-row
invariant-loop-row g l = record {
  size : l.row-iterator.size ≡ 8;
  left : (p : WrittenRow → Bool) → ((r : Code) (b : Bool) → goal.F-post g l.test r b → b ≡ p (view_row r)) → all_rows p (list_rows l.list) ≡ all_rows p (list_rows l.row-iterator.rest.now);
}
