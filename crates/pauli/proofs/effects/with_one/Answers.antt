-- `pauli::effects::with_one` meets its contract: the array made, entry by entry (`made`).
use Rattle.std.proofs.Common.{rules, tests, arith, cond, eqb, ◌∙◌}
use Rattle.pauli.specs.Inner.View.{at}
use Rattle.pauli.proofs.Entries.{set_tab}
use Rattle.pauli.proofs.Made.{made}
use Rattle.pauli.proofs.effects.with_one.Goals as goal

pub returns : goal.returns
returns c n l m =
    let a = c.args in
    made (λ p. cond (eqb p a.i) a.x.0 (at a.a p)) (λ p y q e. search (rules, tests)) c.from_fn.ensures.items n m ∙ set_tab n a.a a.i a.x (omega arith)
