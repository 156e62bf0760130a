-- `text::printing::print_column` meets its contract: a number more at each turn, and the last one with its line feed.
use Rattle.std.proofs.Common.{◌≡◌, ◌+◌, ◌-◌, ◌/◌, length, ap, ◌∙◌, arith}
use Rattle.arith.specs.Bytes.{number_at}
use Rattle.text.proofs.Writing.{commas_none, commas_more, commas_end}
use Rattle.text.proofs.printing.print_column.Goals as goal

pub loop-i-init : goal.loop-i-init
loop-i-init c = record { room = omega arith; puts = commas_none _ _ _ }

pub loop-i-preserved : goal.loop-i-preserved
loop-i-preserved c =
    let p = c.print_field-next in record {
      room = omega arith;
      puts = commas_more _ _ _ _ _ _ _ _ _ c.get.ensures c.loop-i.invariant.puts p.ensures.0;
    }

pub returns : goal.returns
returns c =
    let a = c.args in
    let e : length a.numbers.now / 2 ≡ c.loop-i.i + 1 = omega arith in
    let last : length a.numbers.now / 2 - 1 ≡ c.loop-i.i = omega arith in
    (commas_end _ _ _ _ _ _ _ _ _ _ (c.get-2.ensures ∙ ap (number_at a.numbers.now) last) e c.loop-i.invariant.puts c.print_field.ensures.0, omega arith)
