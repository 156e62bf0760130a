-- `synthesis::turns::shear_partner` meets its contract: the power of the row is what the definition reads off the tableau.
use mathlib.Core.List.{List}
use Prim.Native.Nat.{◌+◌}
use lib.ListN.{get_or}
use Rattle.pauli.specs.Pauli.{Pauli}
use Rattle.tableau.specs.Tableau.{column}
use Rattle.synthesis.specs.Inner.Reduce.{put_s}
use Rattle.synthesis.proofs.Progress.{says_power}
use Rattle.synthesis.proofs.turns.shear_partner.Goals as goal

pub returns : goal.returns
returns g c =
    let a = c.args in
    let t = g.C.Columns.held a.t.now in
    says_power (put_s t.d a.q) (λ (u : List Pauli). get_or (column t.n u (t.n + a.q)).w a.q 0) (cc) c.shear.ensures
