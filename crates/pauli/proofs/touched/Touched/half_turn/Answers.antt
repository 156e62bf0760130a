-- `pauli::touched::Touched::half_turn` meets its contract: the phase as it stands, reduced, and an entry of each kind.
use Rattle.std.proofs.Common.{sym, ◌∙◌, arith}
use Rattle.pauli.proofs.Change.{half_turn_phase}
use Rattle.pauli.proofs.Numbers.{puts_half_turn}
use Rattle.pauli.proofs.touched.Touched.half_turn.Goals as goal

pub returns : goal.returns
returns c =
    let d = c.args.d in
    rw c.on_one.ensures (puts_half_turn d (c.within.ensures ∙ sym (half_turn_phase d _ _ _ (omega arith)).same) c.negative.ensures.value c.negative-2.ensures.value)
