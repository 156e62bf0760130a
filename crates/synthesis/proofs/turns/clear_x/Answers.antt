-- `synthesis::turns::clear_x` meets its contract: the power of the row is what the definition reads off the tableau.
use mathlib.Core.List.{List}
use Prim.Native.Nat.{◌+◌, ◌/◌, ◌%◌}
use native.Mathlib.Omega.{arith}
use Rattle.pauli.specs.Pauli.{Pauli}
use Rattle.tableau.specs.Tableau.{column}
use Rattle.synthesis.specs.Inner.Reduce.{put_x}
use Rattle.synthesis.proofs.Progress.{says_power, says_x}
use Rattle.synthesis.proofs.turns.clear_x.Goals as goal

pub returns : goal.returns
returns g c =
    let a = c.args in
    let t = g.C.Columns.held a.t.now in
    says_power (put_x t.d a.i) (λ (u : List Pauli). (column t.n u (t.n + a.i)).phase / 2 % t.d) (cc) (says_x t.d t.n a.i _ c.on_one.ensures c.unless.ensures (omega arith) (omega arith))
