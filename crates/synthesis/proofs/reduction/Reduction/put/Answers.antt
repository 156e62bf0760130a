-- `synthesis::reduction::Reduction::put` meets its contract: no row, or the row is put behind and its undo row written.
use mathlib.Core.Path.{refl, sym, ◌∙◌, ap}
use mathlib.Core.List.{[], ◌∷◌}
use Prim.Native.Nat.{◌*◌}
use lib.ListN.{length}
use native.Mathlib.Omega.{arith}
use lib.Seq.{length-sets}
use Rattle.gates.specs.Written.{encode_rows}
use Rattle.gates.specs.Inner.View.{view_row}
use Rattle.synthesis.proofs.Progress.{does_put}
use Rattle.synthesis.proofs.reduction.Reduction.put.Goals as goal

pub returns : goal.returns
returns g c =
    let e = c.put.ensures in
    rw c.in-Some.is
    (record { modulus = e.same.0; width = e.same.1; output = refl; size = ap length c.write_row.ensures ∙ length-sets c.args.self.now.out.now (8 * c.args.self.now.count) (encode_rows (view_row c.undo-undo.result ∷ [])); does = does_put _ e.put (sym (rw c.modulus-d.ensures.value at c.undo-undo.ensures)) c.write_row.ensures (omega arith) })
