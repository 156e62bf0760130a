-- `text::printing::print_tableau` meets its contract: a column more at each turn, after the header.
use Rattle.std.proofs.Common.{◌≡◌, ◌+◌, ◌++◌, [], ◌∷◌, length, ◌∙◌, arith, length-append}
use Rattle.text.specs.Format.{column_line}
use Rattle.text.proofs.Columns.{left_all, all_taken, column_fits, left_next, column_same}
use Rattle.text.proofs.Writing.{lines_none, lines_put, puts_more, puts_front}
use Rattle.text.proofs.printing.print_tableau.Goals as goal

pub loop-column-init : goal.loop-column-init
loop-column-init c =
    let i = c.chunks_exact-column-items.ensures in
    let j = c.into_iter-column-iterator.ensures.into_iter_gives in
    rw j (record { size = i.size; left = left_all _ _ _ i.rest; room = omega arith; puts = lines_none _ _ _ _ })

pub print_column-next-requires : goal.print_column-next-requires
print_column-next-requires c =
    let l = c.loop-column.invariant in
    let s = c.in-Some.ensures.steps in
    let fits = column_fits _ _ _ _ (omega arith) (omega arith) l.left _ _ s.1.0 (s.1.1 ∙ l.size) in
    (omega (arith, s.1.1, l.size), omega (arith, s.1.1, l.size, l.room, fits))

pub loop-column-preserved : goal.loop-column-preserved
loop-column-preserved c =
    let l = c.loop-column.invariant in
    let s = c.in-Some.ensures.steps in
    let whole = s.1.1 ∙ l.size in
    let e : length (c.loop-column.yielded ++ (c.in-Some.column ∷ [])) ≡ length c.loop-column.yielded + 1 = length-append c.loop-column.yielded (c.in-Some.column ∷ []) in
    rw e (record {
      size = s.0 ∙ l.size;
      left = left_next _ _ _ _ (omega arith) (omega arith) l.left _ _ s.1.0 whole;
      room = omega (arith, whole, l.room, c.print_column-next.ensures.1);
      puts = lines_put column_line _ _ _ _ _ _ _ _ (column_same _ _ _ _ (omega arith) (omega arith) l.left _ _ s.1.0 whole) l.puts c.print_column-next.ensures.0;
    })

pub returns : goal.returns
returns c =
    let l = c.loop-column.invariant in
    let s = c.in-None.ensures.steps in
    let e = all_taken _ _ _ _ (omega arith) (omega arith) l.left (omega (arith, s.1.0, l.size)) in
    puts_front _ _ _ _ (let room = rw e at l.room in omega arith) (puts_more _ _ _ _ _ _ _ _ c.print_header-next.ensures.0 (rw e at l.puts))
