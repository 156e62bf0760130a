-- `synthesis::turns::gather` meets its contract: the power of the row is what the definition reads off the tableau.
use mathlib.Core.List.{List}
use native.Mathlib.Omega.{arith}
use lib.ListN.{get_or}
use Rattle.arith.specs.Units.{least_multiplier}
use Rattle.arith.proofs.Units.{least_below}
use Rattle.pauli.specs.Pauli.{Pauli}
use Rattle.tableau.specs.Tableau.{column}
use Rattle.synthesis.specs.Inner.Reduce.{put_a}
use Rattle.synthesis.proofs.Progress.{says_power}
use Rattle.synthesis.proofs.turns.gather.Goals as goal

pub returns : goal.returns
returns g c =
    let a = c.args in
    let t = g.C.Columns.held a.t.now in
    says_power (put_a t.d a.j a.q) (λ (u : List Pauli). least_multiplier t.d (get_or (column t.n u a.q).v a.q 0) (get_or (column t.n u a.q).v a.j 0))
    (cc) (c.by_a.ensures t.d t.n _ (omega arith) (omega arith) (λ z. omega arith) (rw c.least_multiplier-k.ensures (rw (c.value.ensures.value, c.modulus.ensures.value) (least_below t.d _ _ (omega arith)))))
