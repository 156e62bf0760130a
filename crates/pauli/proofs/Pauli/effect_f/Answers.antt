-- `pauli::Pauli::effect_f` meets its contract: the effect on the numbers that it touches.
use Rattle.std.proofs.Common.{rules}
use Rattle.pauli.specs.Effects.{effect_f}
use Rattle.pauli.proofs.Pauli.effect_f.Goals as goal

pub returns-clause-value : goal.returns-clause-value
returns-clause-value c n l m = c.on_one.ensures.value n (λ i p. effect_f c.args.d i c.args.k.0 p) l m (λ s t h. search rules)
