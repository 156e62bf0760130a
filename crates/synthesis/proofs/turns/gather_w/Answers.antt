-- `synthesis::turns::gather_w` meets its contract: the power of the row is what the definition reads off the tableau.
use mathlib.Core.List.{List}
use native.Mathlib.Omega.{arith}
use lib.ListN.{get_or}
use Rattle.arith.specs.Units.{least_multiplier}
use Rattle.pauli.specs.Pauli.{Pauli}
use Rattle.tableau.specs.Tableau.{column}
use Rattle.synthesis.specs.Inner.Reduce.{put_s}
use Rattle.synthesis.proofs.Progress.{says_power}
use Rattle.synthesis.proofs.turns.gather_w.Goals as goal

pub returns : goal.returns
returns g c =
    let a = c.args in
    let t = g.C.Columns.held a.t.now in
    says_power (put_s t.d a.j) (λ (u : List Pauli). least_multiplier t.d (get_or (column t.n u a.c).w a.j 0) (get_or (column t.n u a.c).v a.j 0))
    (cc) (rw c.modulus-d.ensures.value at (c.by_s.ensures t.n t.tableau (omega arith)))
