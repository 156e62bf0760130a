-- `text::Buffers::convert_columns` meets its contract: 1, 2 and 3 are answered, or past them the front of the buffer is the tableau's.
use Rattle.std.proofs.Common.{refl}
use Rattle.std.specs.Prelude.{Ok}
use Rattle.text.proofs.Lists.{outputs_as}
use Rattle.text.proofs.Tableaus.{columns_passed, columns_bytes, columns_tableau}
use Rattle.text.proofs.Buffers.convert_columns.Goals as goal

pub convert_tableau-requires : goal.convert_tableau-requires
convert_tableau-requires c =
    let e = c.in_ok-width.ensures in
    let g = columns_passed _ _ _ _ {r = Ok c.in_ok-width.width} e.refusal refl in
    rw (c.tableau_bytes-size.ensures, e.value) (columns_bytes _ _ _ g.1.1 (c.requires g.1.0))

pub returns : goal.returns
returns c =
    let e = c.in_ok-width.ensures in
    let g = columns_passed _ _ _ _ {r = Ok c.in_ok-width.width} e.refusal refl in
    outputs_as (λ o p. columns_tableau _ _ _ _ _ o g.1.0 g.1.1 p) (rw (c.tableau_bytes-size.ensures, e.value) at c.convert_tableau.ensures)
