-- `text::Buffers::convert_list` meets its contract: the call's refusal is answered, or its tableau printed.
use Rattle.std.proofs.Common.{arith, refl}
use Rattle.std.proofs.lemmas.Result.{err_from_is_err_and}
use Rattle.tableau.proofs.Bytes.{tableau_small}
use Rattle.text.proofs.Lists.{refused_some, printed, printed_room, list_refused, list_width, list_printed}
use Rattle.text.proofs.Buffers.convert_list.Goals as goal

pub returns-in_err-tableau_of : goal.returns-in_err-tableau_of
returns-in_err-tableau_of c =
    let p = err_from_is_err_and c.from_residual.result c.from_residual.ensures.1 in
    rw (p.1, p.2) (record { output = refl; inside = tt; holds = list_refused _ _ _ _ _ _ c.in_err-tableau_of.ensures (omega arith) (refused_some _) refl })

pub print_tableau-requires : goal.print_tableau-requires
print_tableau-requires c =
    let small = tableau_small _ (list_width _ _ _ _ _ _ c.in_ok-tableau_of.ensures refl) in
    omega (arith, small)

pub returns : goal.returns
returns c =
    let p = c.print_tableau.ensures in
    record { output = refl; inside = printed_room p; holds = list_printed _ _ _ _ _ _ c.in_ok-tableau_of.ensures (omega arith) refl (printed p) }
