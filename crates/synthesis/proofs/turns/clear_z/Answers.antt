-- `synthesis::turns::clear_z` meets its contract: the power of the row is what the definition reads off the tableau.
use mathlib.Core.Path.{◌≡◌, ◌∙◌, ap}
use mathlib.Core.List.{List}
use Prim.Native.Nat.{ℕ, ◌-◌, ◌/◌, ◌%◌}
use native.Mathlib.Nat.{mod-mod}
use native.Mathlib.Omega.{arith}
use Rattle.arith.specs.Residues.{neg}
use Rattle.pauli.specs.Pauli.{Pauli}
use Rattle.tableau.specs.Tableau.{column}
use Rattle.synthesis.specs.Inner.Reduce.{minus, put_z}
use Rattle.synthesis.proofs.Progress.{says_power, says_z}
use Rattle.synthesis.proofs.turns.clear_z.Goals as goal

-- the negative of a reduced number
minus_reduced : (d x : ℕ) → minus d (x % d) ≡ minus d x
unfolding neg
minus_reduced d x = ap (λ (y : ℕ). (d - y) % d) (mod-mod x d)

pub returns : goal.returns
returns g c =
    let a = c.args in
    let t = g.C.Columns.held a.t.now in
    let h = (rw c.modulus-d.ensures.value at c.half.ensures) ∙ ap (λ (x : ℕ). x / 2 % t.d) c.phase.ensures in
    says_power (put_z t.d a.i) (λ (u : List Pauli). minus t.d ((column t.n u a.i).phase / 2)) (c.value.ensures ∙ (rw c.modulus-d.ensures.value at c.negative-k.ensures.value) ∙ ap (minus t.d) h ∙ minus_reduced t.d _)
    (says_z t.d t.n a.i _ c.on_one.ensures c.unless.ensures (omega arith) (omega arith))
