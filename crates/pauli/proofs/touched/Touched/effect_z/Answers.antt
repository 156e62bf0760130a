-- `pauli::touched::Touched::effect_z` meets its contract: the phase in reduced steps.
use Rattle.std.proofs.Common.{◌∙◌, arith}
use Rattle.pauli.proofs.Change.{z_phase}
use Rattle.pauli.proofs.Numbers.{puts_z}
use Rattle.pauli.proofs.touched.Touched.effect_z.Goals as goal

pub returns : goal.returns
returns c i p a e =
    let d = c.args.d in
    let k = c.args.k.0 in
    rw c.on_one.ensures (puts_z d k a e (c.plus.ensures.value ∙ rw (c.doubled-moved.ensures, c.scaled.ensures.value) (z_phase d k (omega arith) _ _).same))
