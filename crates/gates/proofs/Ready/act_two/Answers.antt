-- `gates::Ready::act_two` meets its contract: what the tests leave of a legal kind on two qudits is one kind, and its effect is what is done.
use Rattle.std.proofs.Common.{arith}
use Rattle.gates.proofs.Acts.{acts_a, acts_c, acts_w}
use Rattle.gates.proofs.Written.{by_two}
use Rattle.gates.proofs.Ready.act_two.Goals as goal

pub returns-then-kind : goal.returns-then-kind
returns-then-kind c =
    acts_a _ _ _ c.requires.legal.0.1 (by_two c.args.self.row.kind c.requires.legal.1 (λ q. q) (λ q. absurd (omega arith)) (λ q. absurd (omega arith))) c.effect_a.ensures

pub returns-then-kind-2 : goal.returns-then-kind-2
returns-then-kind-2 c =
    acts_c _ _ _ c.requires.legal.0.1 (by_two c.args.self.row.kind c.requires.legal.1 (λ q. absurd (omega arith)) (λ q. q) (λ q. absurd (omega arith))) c.effect_c.ensures

pub returns : goal.returns
returns c =
    acts_w _ _ _ c.requires.legal.0.1 (by_two c.args.self.row.kind c.requires.legal.1 (λ q. absurd (omega arith)) (λ q. absurd (omega arith)) (λ q. q)) c.effect_w.ensures
