-- `pauli::touched::Touched::effect_x` meets its contract: the phase in reduced steps. The call that lowers the phase is not named here, so that code with another
-- sign fails by what it promises.
use Rattle.std.proofs.Common.{rules, ◌+◌, ◌*◌, ◌%◌, ◌∙◌, arith}
use Rattle.arith.specs.Residues.{neg}
use Rattle.pauli.proofs.Change.{x_phase}
use Rattle.pauli.proofs.Numbers.{puts_x}
use Rattle.pauli.proofs.touched.Touched.effect_x.Goals as goal

pub returns : goal.returns
returns c i p a e =
    let d = c.args.d in
    let k = c.args.k.0 in
    let lowered = (c.args.self.phase.0 + neg (2 * d) c.doubled-moved.result.0) % (2 * d) in
    rw c.on_one.ensures (puts_x d k a e (◌∙◌ {b = lowered} (search rules) (rw (c.doubled-moved.ensures, c.scaled.ensures.value) (x_phase d k (omega arith) _ _).same)))
