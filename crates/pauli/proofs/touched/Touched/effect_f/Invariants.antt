-- `pauli::touched::Touched::effect_f`: the numbers in work are those that F makes, twice for each turn passed.
use Rattle.std.proofs.Common.{◌*◌}
use Rattle.pauli.specs.Inner.Touched.{view_touched, OnOne}
use Rattle.pauli.specs.Effects.{effect_f}
use Rattle.pauli.proofs.touched.Touched.effect_f.Given as goal

abbrev pub invariant-loop : goal.invariant-loop
invariant-loop l = OnOne (λ i p. effect_f l.d i (2 * l.counter) p) (view_touched l.fn.self) (view_touched l.t)
