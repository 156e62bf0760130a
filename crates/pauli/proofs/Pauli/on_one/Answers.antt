-- `pauli::Pauli::on_one` meets its contract: the numbers that it touches are put in their place.
use Rattle.std.proofs.Common.{sym, ◌∙◌}
use Rattle.pauli.proofs.Numbers.{view_has, placed_one}
use Rattle.pauli.proofs.Pauli.on_one.Goals as goal

pub returns-clause-value : goal.returns-clause-value
returns-clause-value g c n effect l m makes =
    c.placed.ensures.value n l m ∙ sym (placed_one (makes _ _ c.change-t.ensures _ _ (view_has c.args.self l) (sym (c.touched.ensures n l l))))
