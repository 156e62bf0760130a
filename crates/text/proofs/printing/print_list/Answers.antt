-- `text::printing::print_list` meets its contract: a row more at each turn, after the header.
use Rattle.std.proofs.Common.{◌≡◌, ◌+◌, ◌++◌, [], ◌∷◌, length, sym, ap, ◌∙◌, arith, length-append}
use Rattle.arith.proofs.Bytes.{tab_length}
use Rattle.gates.specs.Written.{row_at, list_rows}
use Rattle.text.specs.Format.{concatenated, row_line}
use Rattle.text.proofs.Writing.{puts_none, lines_snoc, rows_fit, rows_next, rows_end, puts_more, puts_front}
use Rattle.text.proofs.printing.print_list.Goals as goal

pub loop-row-init : goal.loop-row-init
unfolding concatenated
loop-row-init c =
    let i = c.chunks_exact-row-items.ensures in
    let j = c.into_iter-row-iterator.ensures.into_iter_gives in
    rw j (record { size = i.size; passed = []; left = sym (ap list_rows i.rest); room = omega arith; puts = puts_none _ _ })

pub print_row-next-requires : goal.print_row-next-requires
print_row-next-requires c =
    let l = c.loop-row.invariant in
    let s = c.in-Some.ensures.steps in
    let fit = rows_fit _ _ _ l.left _ _ s.1.0 (s.1.1 ∙ l.size) in
    omega (arith, l.room, fit)

pub loop-row-preserved : goal.loop-row-preserved
loop-row-preserved c =
    let l = c.loop-row.invariant in
    let s = c.in-Some.ensures.steps in
    let row = row_at c.in-Some.row.now 0 in
    let e : length (l.passed ++ (row ∷ [])) ≡ length l.passed + 1 = length-append l.passed (row ∷ []) in
    record {
      size = s.0 ∙ l.size;
      passed = l.passed ++ (row ∷ []);
      left = rows_next _ _ _ l.left _ _ s.1.0 (s.1.1 ∙ l.size);
      room = omega (arith, e, l.room, c.print_row-next.ensures.1);
      puts = lines_snoc row_line _ _ _ _ _ _ _ c.read_row.ensures l.puts c.print_row-next.ensures.0;
    }

pub returns : goal.returns
returns c =
    let l = c.loop-row.invariant in
    let s = c.in-None.ensures.steps in
    let e = rows_end _ _ _ l.left (omega (arith, s.1.0, l.size)) in
    let count = ap length e ∙ tab_length _ _ in
    puts_front _ _ _ _ (omega (arith, l.room, count)) (puts_more _ _ _ _ _ _ _ _ c.print_header-next.ensures.0 (rw e at l.puts))
