-- `synthesis::turns::by_s` meets its contract: the power is the definition's.
use mathlib.Core.Path.{◌≡◌, sym, ◌∙◌, ap}
use Prim.Native.Nat.{◌%◌}
use native.Mathlib.Omega.{arith}
use Rattle.gates.specs.Written.{on_one}
use Rattle.synthesis.specs.Inner.Reduce.{near_power}
use Rattle.synthesis.proofs.Steps.{near_below, near_above}
use Rattle.synthesis.proofs.Progress.{says_s_none, says_s}
use Rattle.synthesis.proofs.turns.by_s.Goals.{then-low-m, else-low-m}
use Rattle.synthesis.proofs.turns.by_s.Goals as goal

pub returns-then-low-eq0 : goal.returns-then-low-eq0
returns-then-low-eq0 c n t l = let a = c.args in says_s_none a.d n a.i a.k.0 (rw (← c.value-m.ensures.value, ← c.value.ensures) c.if-low-eq0.true)

pub returns : goal.returns
returns c n t l =
    let a = c.args in
    let e = c.value-m.ensures.value in
    let near : c.if-low-m.near ≡ near_power a.d (a.k.0 % a.d) = elim c.if-low-m.branch [
      | then-low-m w ↦ rw (← e, ← c.value.ensures) (w.near-is ∙ sym (near_below _ _ w.if-low-m.true))
      | else-low-m w ↦ rw (← e, ← c.value.ensures) (w.near-is ∙ sym (near_above _ _ w.if-low-m.false))
    ] in
    says_s a.d n a.i a.k.0 (c.on_one.ensures ∙ ap (on_one 2 a.i) near) (omega arith) l (rw (← e, ← c.value.ensures) c.if-low-eq0.false)
