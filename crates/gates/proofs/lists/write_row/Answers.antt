-- `gates::lists::write_row` meets its contract: the numbers are written one after the other (`write_next`).
use mathlib.Core.Path.{◌≡◌, refl, ◌∙◌, ap}
use mathlib.Core.List.{[], ◌∷◌}
use Prim.Native.Nat.{ℕ, ◌*◌}
use native.Mathlib.Omega.{arith}
use lib.ListN.{get_or}
use lib.Seq.{sets}
use Rattle.arith.specs.Bytes.{tab, bytes_of}
use Rattle.arith.proofs.Bytes.{write_none, write_next}
use Rattle.gates.specs.Written.{WrittenRow, row_numbers, list_numbers, encode_rows}
use Rattle.gates.specs.Inner.View.{view_row}
use Rattle.gates.proofs.lists.write_row.Goals as goal

-- the four numbers are the row's
four : (w : WrittenRow) → bytes_of (tab (λ j. get_or (row_numbers w) j 0) 4) ≡ encode_rows (w ∷ [])
unfolding tab list_numbers
four w = refl

pub loop-i-init : goal.loop-i-init
loop-i-init c = write_none _ _ _

pub loop-i-preserved : goal.loop-i-preserved
loop-i-preserved c = c.put.ensures ∙ write_next _ _ _ _ _ _ refl c.loop-i.invariant

pub returns : goal.returns
returns c =
    let e : c.loop-i.i ≡ 4 = omega arith in
    let a = c.args in
    let place : 2 * (4 * a.r) ≡ 8 * a.r = omega arith in
    c.loop-i.invariant
    ∙ ap (λ (x : ℕ). sets a.out.now (2 * (4 * a.r)) (bytes_of (tab (λ j. get_or (row_numbers (view_row a.row)) j 0) x))) e
    ∙ ap (sets a.out.now (2 * (4 * a.r))) (four (view_row a.row))
    ∙ ap (λ (x : ℕ). sets a.out.now x (encode_rows (view_row a.row ∷ []))) place
