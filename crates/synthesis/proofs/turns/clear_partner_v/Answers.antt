-- `synthesis::turns::clear_partner_v` meets its contract: the power of the row is what the definition reads off the tableau.
use mathlib.Core.List.{List}
use Prim.Native.Nat.{◌+◌, ◌%◌}
use native.Mathlib.Omega.{arith}
use lib.ListN.{get_or}
use Rattle.pauli.specs.Pauli.{Pauli}
use Rattle.tableau.specs.Tableau.{column}
use Rattle.synthesis.specs.Inner.Reduce.{put_a}
use Rattle.synthesis.proofs.Progress.{says_power}
use Rattle.synthesis.proofs.turns.clear_partner_v.Goals as goal

pub returns : goal.returns
returns g c =
    let a = c.args in
    let t = g.C.Columns.held a.t.now in
    says_power (put_a t.d a.q a.j) (λ (u : List Pauli). get_or (column t.n u (t.n + a.q)).v a.j 0 % t.d) (cc) (c.by_a.ensures t.d t.n _ (omega arith) (omega arith) (λ z. omega arith) (omega arith))
