-- `gates::Row::apply` meets its contract: what the tests leave of a legal kind is one kind, and its effect is what is done.
use Rattle.std.proofs.Common.{◌≡◌, true, ℕ, ◌-◌, ◌<◌, refl, ◌∙◌, ap, arith}
use Rattle.gates.specs.Written.{WrittenRow, takes_two, legal_row}
use Rattle.gates.proofs.Acts.{of_kind_lem}
use Rattle.gates.proofs.Written.{legal_first, legal_second_lem, legal_bounds}
use Rattle.gates.proofs.Row.apply.Goals as goal

-- the row's qudits are among the n
first : (d n : ℕ) (w : WrittenRow) → legal_row d n w ≡ true → w.first - 1 < n
first d n w legal = omega (arith, legal_first d n w legal)

second : (d n : ℕ) (w : WrittenRow) (kind : ℕ) → legal_row d n w ≡ true → w.kind ≡ kind → takes_two kind ≡ true → w.second - 1 < n
second d n w kind legal e two = omega (arith, legal_second_lem d n w legal (ap takes_two e ∙ two))

pub returns-then-kind-clause-value : goal.returns-then-kind-clause-value
returns-then-kind-clause-value c =
    let e : c.args.self.kind ≡ 1 = omega (arith, legal_bounds _ _ _ c.requires.legal) in
    c.effect_f.ensures.value _ (first _ _ _ c.requires.legal) c.value-few.ensures.few ∙ of_kind_lem _ _ 1 _ e

pub returns-then-kind-2-clause-value : goal.returns-then-kind-2-clause-value
returns-then-kind-2-clause-value c =
    let e : c.args.self.kind ≡ 2 = omega (arith, legal_bounds _ _ _ c.requires.legal) in
    c.effect_s.ensures.value _ (first _ _ _ c.requires.legal) c.value-few.ensures.few ∙ of_kind_lem _ _ 2 _ e

pub returns-then-kind-3-clause-value : goal.returns-then-kind-3-clause-value
returns-then-kind-3-clause-value c =
    let e : c.args.self.kind ≡ 3 = omega (arith, legal_bounds _ _ _ c.requires.legal) in
    c.effect_a.ensures.value _ (first _ _ _ c.requires.legal) (second _ _ _ 3 c.requires.legal e refl) c.value-few.ensures.few ∙ of_kind_lem _ _ 3 _ e

pub returns-then-kind-4-clause-value : goal.returns-then-kind-4-clause-value
returns-then-kind-4-clause-value c =
    let e : c.args.self.kind ≡ 4 = omega (arith, legal_bounds _ _ _ c.requires.legal) in
    c.effect_m.ensures.value _ (first _ _ _ c.requires.legal) c.value-few.ensures.few ∙ of_kind_lem _ _ 4 _ e

pub returns-then-kind-5-clause-value : goal.returns-then-kind-5-clause-value
returns-then-kind-5-clause-value c =
    let e : c.args.self.kind ≡ 5 = omega (arith, legal_bounds _ _ _ c.requires.legal) in
    c.effect_x.ensures.value _ (first _ _ _ c.requires.legal) c.value-few.ensures.few ∙ of_kind_lem _ _ 5 _ e

pub returns-then-kind-6-clause-value : goal.returns-then-kind-6-clause-value
returns-then-kind-6-clause-value c =
    let e : c.args.self.kind ≡ 6 = omega (arith, legal_bounds _ _ _ c.requires.legal) in
    c.effect_z.ensures.value _ (first _ _ _ c.requires.legal) c.value-few.ensures.few ∙ of_kind_lem _ _ 6 _ e

pub returns-then-kind-7-clause-value : goal.returns-then-kind-7-clause-value
returns-then-kind-7-clause-value c =
    let e : c.args.self.kind ≡ 7 = omega (arith, legal_bounds _ _ _ c.requires.legal) in
    c.effect_c.ensures.value _ (first _ _ _ c.requires.legal) (second _ _ _ 7 c.requires.legal e refl) c.value-few.ensures.few ∙ of_kind_lem _ _ 7 _ e

pub returns-clause-value : goal.returns-clause-value
returns-clause-value c =
    let e : c.args.self.kind ≡ 8 = omega (arith, legal_bounds _ _ _ c.requires.legal) in
    c.effect_w.ensures.value _ (first _ _ _ c.requires.legal) (second _ _ _ 8 c.requires.legal e refl) c.value-few.ensures.few ∙ of_kind_lem _ _ 8 _ e
