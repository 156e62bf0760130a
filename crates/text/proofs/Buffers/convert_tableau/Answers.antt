-- `text::Buffers::convert_tableau` meets its contract: the call's refusal is answered, or its list printed.
use Rattle.std.proofs.Common.{◌*◌, ◌≤◌, length, arith, refl}
use lib.Seq.{length-take-le}
use Rattle.std.proofs.lemmas.Result.{err_from_is_err_and}
use Rattle.text.proofs.Lists.{refused_some, printed, printed_room, front_length}
use Rattle.text.proofs.Tableaus.{tableau_refused, list_few, tableau_printed}
use Rattle.text.proofs.Buffers.convert_tableau.Goals as goal

pub returns-in_err-count : goal.returns-in_err-count
returns-in_err-count c =
    let p = err_from_is_err_and c.from_residual.result c.from_residual.ensures.1 in
    rw (p.1, p.2) (record { output = refl; inside = tt; holds = tableau_refused _ _ _ _ _ _ c.in_err-count.ensures.synthesised (omega arith) (refused_some _) refl })

pub slice_bounds-list-end : goal.slice_bounds-list-end
slice_bounds-list-end c =
    let few = list_few _ _ _ _ _ _ c.in_ok-count.ensures.synthesised refl in
    front_length _ _ (omega (arith, few))

pub print_list-requires : goal.print_list-requires
print_list-requires c =
    let few = list_few _ _ _ _ _ _ c.in_ok-count.ensures.synthesised refl in
    let inside : 8 * c.in_ok-count.field-0 ≤ length c.synthesis.new.out = omega (arith, few) in
    omega (arith, few, length-take-le _ _ inside)

pub returns : goal.returns
returns c =
    let p = c.print_list.ensures in
    record { output = refl; inside = printed_room p; holds = tableau_printed _ _ _ _ _ _ c.in_ok-count.ensures.synthesised (omega arith) refl (printed p) }
