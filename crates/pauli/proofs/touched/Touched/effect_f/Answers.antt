-- `pauli::touched::Touched::effect_f` meets its contract: two more times at each turn, then once more where k is odd.
use Rattle.std.proofs.Common.{◌≡◌, ◌+◌, ◌*◌, suc, arith}
use Rattle.pauli.proofs.Numbers.{puts_next}
use Rattle.pauli.proofs.touched.Touched.effect_f.Goals as goal

pub loop-preserved : goal.loop-preserved
loop-preserved c =
    let e : 2 * (c.loop.counter + 1) ≡ suc (suc (2 * c.loop.counter)) = omega arith in
    rw e (puts_next c.loop.invariant c.half_turn-t.ensures)

pub returns : goal.returns
returns c =
    let e : c.args.k.0 ≡ suc (2 * c.loop.counter) = omega arith in
    rw e (puts_next c.loop.invariant c.fourier.ensures)
