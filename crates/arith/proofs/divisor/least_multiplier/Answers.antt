-- `arith::divisor::least_multiplier` meets its contract: what it hands to the search are a and b brought below d, for which the answer is the same.
use Rattle.std.proofs.Common.{◌≡◌, ℕ, ◌<◌, ◌%◌, sym, ◌∙◌, ap, ap₂}
use Rattle.arith.specs.Gcd.{gcd}
use Rattle.arith.specs.Units.{least_multiplier}
use Rattle.arith.proofs.Gcd.{gcd_order}
use Rattle.arith.proofs.Units.{least_fits_zero, least_reduced}
use Rattle.arith.proofs.divisor.least_multiplier.Goals as goal

-- the divisor that is wanted, of the numbers brought below d
wanted_is : {a b u v g w : ℕ} (d : ℕ) → v ≡ a → u ≡ b → g ≡ gcd v d → w ≡ gcd u g → w ≡ gcd (gcd a b) d
wanted_is {a} {b} d e f p q = q ∙ ap₂ gcd f (p ∙ ap (λ (x : ℕ). gcd x d) e) ∙ sym (gcd_order a b d)

-- for a and b brought below d the answer is that for a and b
reduced : (d a b : ℕ) {x y : ℕ} → 0 < d → x ≡ a % d → y ≡ b % d → least_multiplier d x y ≡ least_multiplier d a b
reduced d a b p e f = ap₂ (least_multiplier d) e f ∙ least_reduced d a b p

pub returns-then-divisor-wanted : goal.returns-then-divisor-wanted
returns-then-divisor-wanted c =
    let w = wanted_is _ c.value.ensures c.value-2.ensures c.common_divisor-divisor.ensures c.common_divisor-wanted.ensures in
    let e = c.common_divisor-divisor.ensures ∙ ap (λ (x : ℕ). gcd x c.args.d) c.value.ensures in
    sym (least_fits_zero _ _ _ c.requires (sym e ∙ c.if-divisor-wanted.true ∙ w)) ∙ reduced _ _ _ c.requires c.within-start.ensures c.within-step.ensures

pub search-requires-clause-divisor : goal.search-requires-clause-divisor
search-requires-clause-divisor c =
    let e = c.common_divisor-divisor.ensures ∙ ap (λ (x : ℕ). gcd x c.args.d) c.value.ensures in
    (wanted_is _ c.value.ensures c.value-2.ensures c.common_divisor-divisor.ensures c.common_divisor-wanted.ensures, λ z. c.if-divisor-wanted.false (e ∙ z))

pub returns : goal.returns
returns c = c.search.ensures ∙ reduced _ _ _ c.requires c.within-start.ensures c.within-step.ensures
