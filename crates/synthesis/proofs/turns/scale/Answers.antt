-- `synthesis::turns::scale` meets its contract: the power of the row is what the definition reads off the tableau.
use mathlib.Core.Path.{◌∙◌}
use mathlib.Core.List.{List}
use native.Mathlib.Omega.{arith}
use lib.ListN.{get_or}
use Rattle.arith.specs.Units.{IsUnit, inverse_of}
use Rattle.arith.proofs.Units.{inverse_below, inverse_unit}
use Rattle.pauli.specs.Pauli.{Pauli}
use Rattle.tableau.specs.Tableau.{column}
use Rattle.synthesis.specs.Inner.Reduce.{put_m}
use Rattle.synthesis.proofs.Progress.{says_power, says_m}
use Rattle.synthesis.proofs.turns.scale.Goals as goal

pub returns : goal.returns
returns g c =
    let a = c.args in
    let t = g.C.Columns.held a.t.now in
    let unit : IsUnit t.d c.v.result.0 = rw c.v.ensures c.requires.unit in
    let k = c.value.ensures ∙ (rw c.modulus.ensures.value at c.inverse-k.ensures) in
    says_power (put_m t.d a.q) (λ (u : List Pauli). inverse_of t.d (get_or (column t.n u a.q).v a.q 0)) (cc)
    (says_m t.d t.n a.q _ c.on_one.ensures c.unless.ensures (omega arith) (rw k (inverse_unit t.d _ (omega arith) unit)) (omega arith) (rw k (inverse_below t.d _ (omega arith) unit)))
