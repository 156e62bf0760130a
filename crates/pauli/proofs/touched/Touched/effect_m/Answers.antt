-- `pauli::touched::Touched::effect_m` meets its contract: an entry of each kind.
use Rattle.std.proofs.Common.{ℕ, ◌*◌, ◌%◌, ap, ◌∙◌}
use Rattle.pauli.proofs.Numbers.{puts_m}
use Rattle.pauli.proofs.touched.Touched.effect_m.Goals as goal

pub returns : goal.returns
returns c i p a e =
    let d = c.args.d in
    rw c.on_one.ensures (puts_m d c.args.k.0 a e c.scaled.ensures.value (c.times.ensures ∙ ap (λ (x : ℕ). x * c.args.self.wi.0 % d) c.requires.inverse))
