-- `gates::Ready::act_one` meets its contract: what the tests leave of a legal kind on one qudit is one kind, and its effect is what is done.
-- The effects of X and Z are looked up, not named: so a program that exchanges them is refused at what it does.
use Rattle.std.proofs.Common.{rules, arith}
use Rattle.gates.proofs.Acts.{acts_f, acts_s, acts_m, acts_x, acts_z}
use Rattle.gates.proofs.Written.{legal_bounds, not_two}
use Rattle.gates.proofs.Ready.act_one.Goals as goal

pub returns-then-kind : goal.returns-then-kind
returns-then-kind c = acts_f _ _ (omega (arith, legal_bounds _ _ _ c.requires.legal.0.1)) c.effect_f.ensures

pub returns-then-kind-2 : goal.returns-then-kind-2
returns-then-kind-2 c = acts_s _ _ (omega (arith, legal_bounds _ _ _ c.requires.legal.0.1)) c.effect_s.ensures

pub returns-then-kind-3 : goal.returns-then-kind-3
returns-then-kind-3 c = acts_m _ _ (omega (arith, legal_bounds _ _ _ c.requires.legal.0.1, not_two c.args.self.row.kind c.requires.legal.1)) c.effect_m.ensures

pub returns-then-kind-4 : goal.returns-then-kind-4
returns-then-kind-4 c = acts_x _ _ (omega (arith, legal_bounds _ _ _ c.requires.legal.0.1)) (search rules)

pub returns : goal.returns
returns c = acts_z _ _ (omega (arith, legal_bounds _ _ _ c.requires.legal.0.1, not_two c.args.self.row.kind c.requires.legal.1)) (search rules)
