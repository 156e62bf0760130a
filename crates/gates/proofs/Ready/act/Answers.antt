-- `gates::Ready::act` meets its contract: what is done is the effect of the row's kind, and no legal row has another kind. The effects of X and Z
-- are looked up, not named: so a program that exchanges them is refused at what it does.
use Rattle.std.proofs.Common.{rules, ◌≡◌, ℕ, ap, sym, ◌∙◌}
use Rattle.gates.specs.declared.kind.Kind.{Kind as Code}
use Rattle.gates.specs.Kind.{kind_number}
use Rattle.gates.proofs.Acts.{acts_f, acts_s, acts_a, acts_m, acts_x, acts_z, acts_c, acts_w}
use Rattle.gates.proofs.Written.{no_kind, legal_kind}
use Rattle.gates.proofs.Ready.act.Goals as goal

-- the number of the kind that was found
found : {k l : Code} {number : ℕ} → k ≡ l → kind_number k ≡ number → number ≡ kind_number l
found e h = sym h ∙ ap kind_number e

pub returns-in-Ok-F : goal.returns-in-Ok-F
returns-in-Ok-F c n legal = acts_f _ _ (found c.in-Ok-F.field-0-is c.in-Ok-F.ensures) c.effect_f.ensures

pub returns-in-Ok-S : goal.returns-in-Ok-S
returns-in-Ok-S c n legal = acts_s _ _ (found c.in-Ok-S.field-0-is c.in-Ok-S.ensures) c.effect_s.ensures

pub returns-in-Ok-A : goal.returns-in-Ok-A
returns-in-Ok-A c n legal = acts_a _ _ n legal (found c.in-Ok-A.field-0-is c.in-Ok-A.ensures) c.effect_a.ensures

pub returns-in-Ok-M : goal.returns-in-Ok-M
returns-in-Ok-M c n legal = acts_m _ _ (found c.in-Ok-M.field-0-is c.in-Ok-M.ensures) c.effect_m.ensures

pub returns-in-Ok-X : goal.returns-in-Ok-X
returns-in-Ok-X c n legal = acts_x _ _ (found c.in-Ok-X.field-0-is c.in-Ok-X.ensures) (search rules)

pub returns-in-Ok-Z : goal.returns-in-Ok-Z
returns-in-Ok-Z c n legal = acts_z _ _ (found c.in-Ok-Z.field-0-is c.in-Ok-Z.ensures) (search rules)

pub returns-in-Ok-C : goal.returns-in-Ok-C
returns-in-Ok-C c n legal = acts_c _ _ n legal (found c.in-Ok-C.field-0-is c.in-Ok-C.ensures) c.effect_c.ensures

pub returns-in-Ok-W : goal.returns-in-Ok-W
returns-in-Ok-W c n legal = acts_w _ _ n legal (found c.in-Ok-W.field-0-is c.in-Ok-W.ensures) c.effect_w.ensures

pub returns-in-Err : goal.returns-in-Err
returns-in-Err c n legal = absurd (legal_kind c.args.d n _ legal (no_kind c.args.d _ c.in-Err.ensures.1))
