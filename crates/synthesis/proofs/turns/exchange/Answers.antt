-- `synthesis::turns::exchange` meets its contract: the power of the row is what the definition reads off the tableau.
use mathlib.Core.Path.{◌≡◌, ◌∙◌, ap}
use mathlib.Core.List.{List}
use mathlib.Core.Bool.{Bool, cond}
use Prim.Native.Nat.{ℕ, ◌*◌, ◌≤◌}
use lib.Dec.{ltb}
use Rattle.arith.proofs.Cases.{ltb_case}
use Rattle.gates.specs.Row.{F}
use native.Mathlib.Omega.{arith}
use lib.ListN.{get_or}
use Rattle.pauli.specs.Pauli.{Pauli}
use Rattle.tableau.specs.Tableau.{column}
use Rattle.synthesis.specs.Inner.Reduce.{put}
use Rattle.synthesis.proofs.Progress.{says_power, says_f}
use Rattle.synthesis.proofs.turns.exchange.Goals as goal

-- one of the two powers of F
one_or_three : (d x k : ℕ) → k ≡ cond (ltb d x) 1 3 → (1 ≤ k) × (k ≤ 3)
one_or_three d x k e = rw e (ltb_case (λ (b : Bool). (1 ≤ cond b 1 3) × (cond b 1 3 ≤ 3)) d x (λ l. (omega arith, omega arith)) (λ l. (omega arith, omega arith)))

pub returns : goal.returns
returns g c =
    let a = c.args in
    let t = g.C.Columns.held a.t.now in
    let k = rw c.modulus.ensures.value at c.exchange_power.ensures in
    says_power (λ k. put t.d (F a.j k)) (λ (u : List Pauli). cond (ltb t.d (2 * get_or (column t.n u a.c).w a.j 0)) 1 3) (k ∙ ap (λ (y : ℕ). cond (ltb t.d (2 * y)) 1 3) c.w.ensures)
    (says_f t.d t.n a.j _ c.on_one.ensures (omega arith) (one_or_three t.d _ _ k))
