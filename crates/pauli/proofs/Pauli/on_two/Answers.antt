-- `pauli::Pauli::on_two` meets its contract: the numbers that it touches are put in their place.
use Rattle.std.proofs.Common.{sym}
use Rattle.pauli.proofs.Numbers.{view_has, placed_two}
use Rattle.pauli.proofs.Pauli.on_two.Goals as goal

pub returns-clause-value : goal.returns-clause-value
returns-clause-value g c n effect li lj m makes =
    let p = c.args.self in
    placed_two (c.placed.ensures.value n li m) (c.placed-2.ensures.value n lj m) (makes _ _ c.change-t.ensures _ _ _ c.requires.places.1.1 (view_has p li) (view_has p lj) (sym (c.touched.ensures n li lj)))
