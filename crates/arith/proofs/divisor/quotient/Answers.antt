-- `arith::divisor::quotient` meets its contract, by `quotient_euclid`. The divisor of a positive d is positive, and so is d over it.
use Rattle.std.proofs.Common.{ℕ, ◌*◌, ◌/◌, ◌%◌, ◌<◌, sym, subst, ap, ap₂, ◌∙◌, arith}
use native.Mathlib.Nat.{div-le_self, mod-lt}
use Rattle.arith.proofs.Quotient.{quotient_zero, divisor_pos, modulus_pos, quotient_computed, quotient_missing}
use Rattle.arith.proofs.divisor.quotient.Goals as goal

pub returns-then-y-eq0 : goal.returns-then-y-eq0
returns-then-y-eq0 c =
    let z = c.args in
    record { some = (sym (quotient_zero z.d z.a.0 z.b.0 (omega arith) (omega arith)), omega arith); none = tt }

pub nonzero_rem-y : goal.nonzero_rem-y
nonzero_rem-y c = divisor_pos c.args.d c.args.a.0 c.euclid-g.ensures.0 (omega arith)

pub returns-then-y-g-ne0 : goal.returns-then-y-g-ne0
returns-then-y-g-ne0 c =
    let y = c.value-y in
    record { some = tt; none = sym (rw (sym y.ensures) (quotient_missing c.args.d c.args.a.0 c.euclid-g.ensures.0 (omega arith) y.result (λ e. omega arith))) }

pub remainder-requires : goal.remainder-requires
remainder-requires c =
    let r = c.euclid-g in
    let g = r.result.divisor in
    let pos = subst (λ (x : ℕ). 0 < x / g) (sym c.value-whole.ensures.value) (modulus_pos c.args.d c.args.a.0 r.ensures.0 (omega arith)) in
    omega (arith, pos, div-le_self c.value-whole.result g)

pub returns : goal.returns
returns c =
    let y = c.value-y in let r = c.euclid-g in
    let g = r.result.divisor in
    let pos = modulus_pos c.args.d c.args.a.0 r.ensures.0 (omega arith) in
    let is = c.lent.ensures ∙ c.remainder.ensures ∙ ap₂ (λ (x m : ℕ). y.result / g * x % m) c.value.ensures (ap (λ (x : ℕ). x / g) c.value-whole.ensures.value) in
    let least = quotient_computed c.args.d c.args.a.0 r.ensures.0 (omega arith) y.result r.result.factor.0 (omega arith) r.ensures.2 in
    record { some = (is ∙ rw (sym y.ensures) least, rw is (omega (arith, mod-lt (y.result / g * r.result.factor.0) pos, div-le_self c.args.d g))); none = tt }
