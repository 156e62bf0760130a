-- `synthesis::list::reverse_rows` meets its contract: one swap more, and half as many swaps as there are rows reverse them.
use mathlib.Core.Path.{◌≡◌, sym, ◌∙◌, ap}
use mathlib.Core.List.{List, ◌++◌}
use Prim.Native.Nat.{◌/◌}
use native.Mathlib.Omega.{arith}
use lib.ListN.{length}
use Rattle.gates.specs.Written.{WrittenRow, encode_rows}
use Rattle.synthesis.proofs.Reversed.{turned, turned_none, turned_next, turned_reverse}
use Rattle.synthesis.proofs.list.reverse_rows.Goals as goal

pub loop-r-init : goal.loop-r-init
loop-r-init c ws rest e q = q ∙ ap (λ (l : List WrittenRow). encode_rows l ++ rest) (sym (turned_none ws))

pub loop-r-preserved : goal.loop-r-preserved
loop-r-preserved c ws rest e q = turned_next ws rest c.args.count c.loop-r.r e (omega arith) (c.loop-r.invariant ws rest e q) c.swap_rows.ensures

pub returns : goal.returns
returns c ws rest e q =
    let h : c.loop-r.r ≡ length ws / 2 = omega arith in
    c.loop-r.invariant ws rest e q ∙ ap (λ (z : List WrittenRow). encode_rows z ++ rest) (ap (turned ws) h ∙ turned_reverse ws)
