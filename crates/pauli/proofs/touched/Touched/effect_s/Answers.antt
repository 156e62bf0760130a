-- `pauli::touched::Touched::effect_s` meets its contract: the phase and an entry, in reduced steps.
use Rattle.std.proofs.Common.{◌∙◌, arith, ◌<◌}
use Rattle.pauli.proofs.Change.{s_phase_once, plus_entry}
use Rattle.pauli.proofs.Numbers.{puts_s}
use Rattle.pauli.proofs.touched.Touched.effect_s.Goals as goal

pub returns : goal.returns
returns c i p a e =
    let d = c.args.d in
    let k = c.args.k.0 in
    let h : 0 < d = omega arith in
    rw c.on_one.ensures (puts_s d k a e
    (c.plus.ensures.value ∙ rw c.sheared-moved.ensures (s_phase_once d k h _ _).same)
    (rw c.scaled.ensures.value at c.plus-2.ensures.value ∙ (plus_entry d k h _ _).same))
