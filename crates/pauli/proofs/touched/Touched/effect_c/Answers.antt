-- `pauli::touched::Touched::effect_c` meets its contract: the phase, and an entry of each qudit, in reduced steps.
use Rattle.std.proofs.Common.{◌∙◌, arith, ◌<◌}
use Rattle.pauli.proofs.Change.{c_phase, plus_entry}
use Rattle.pauli.proofs.Numbers.{puts_c}
use Rattle.pauli.proofs.touched.Touched.effect_c.Goals as goal

pub returns : goal.returns
returns c i j p apart a b e =
    let d = c.args.d in
    let k = c.args.k.0 in
    let h : 0 < d = omega arith in
    puts_c d k apart a b e
    (c.plus.ensures.value ∙ rw (c.doubled-moved.ensures, c.times.ensures, c.scaled-times_x.ensures.value) (c_phase d k h _ _ _).same)
    (rw c.scaled.ensures.value at c.plus-2.ensures.value ∙ (plus_entry d k h _ _).same)
    (rw c.scaled-times_x.ensures.value at c.plus-3.ensures.value ∙ (plus_entry d k h _ _).same)
