-- `pauli::touched::Touched::effect_a` meets its contract: an entry of each qudit, in reduced steps.
use Rattle.std.proofs.Common.{◌∙◌, arith, ◌<◌}
use Rattle.pauli.proofs.Change.{plus_entry, minus_entry}
use Rattle.pauli.proofs.Numbers.{puts_a}
use Rattle.pauli.proofs.touched.Touched.effect_a.Goals as goal

pub returns : goal.returns
returns c i j p apart a b e =
    let d = c.args.d in
    let k = c.args.k.0 in
    let h : 0 < d = omega arith in
    puts_a d k apart a b e
    (rw c.scaled.ensures.value at c.minus.ensures.value ∙ (minus_entry d k h _ _).same)
    (rw c.scaled-2.ensures.value at c.plus.ensures.value ∙ (plus_entry d k h _ _).same)
