-- `pauli::Pauli::effect_x` meets its contract: the effect on the phase, the one number that it changes.
use Rattle.std.proofs.Common.{refl, sym, ◌∙◌}
use Rattle.pauli.specs.Inner.View.{view}
use Rattle.pauli.proofs.Numbers.{view_has, phase_alone}
use Rattle.pauli.proofs.Pauli.effect_x.Goals as goal

pub returns-clause-value : goal.returns-clause-value
returns-clause-value c n l m =
    let a = c.args in
    c.with_phase.ensures.value n ∙ sym (phase_alone (c.effect_x-t.ensures a.i (view n a.self) (view_has a.self l) (sym (c.touched.ensures n l l))) refl refl)
