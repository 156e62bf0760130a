-- `pauli::Pauli::effect_c` meets its contract: the effect on the numbers that it touches.
use Rattle.std.proofs.Common.{rules}
use Rattle.pauli.specs.Effects.{effect_c}
use Rattle.pauli.proofs.Pauli.effect_c.Goals as goal

pub returns-clause-value : goal.returns-clause-value
returns-clause-value c n li lj m = c.on_two.ensures.value n (λ i j p. effect_c c.args.d i j c.args.k.0 p) li lj m (λ s t h. search rules)
