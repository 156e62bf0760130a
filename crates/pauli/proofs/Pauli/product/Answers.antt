-- `pauli::Pauli::product` meets its contract, part by part: the phase is reduced after each sum.
use Rattle.std.proofs.Common.{rules, ◌≡◌, sym, ◌∙◌, [], ◌∷◌, ℕ, ◌+◌, ◌*◌, ◌%◌, ◌<◌, arith}
use Rattle.arith.proofs.Cong.{Cong}
use Rattle.arith.proofs.Ring.{ring₂, quote}
use Rattle.pauli.specs.Inner.View.{at}
use Rattle.pauli.proofs.Entries.{plus_tab}
use Rattle.pauli.proofs.Ranges.{pauli_path}
use Rattle.pauli.proofs.Pauli.product.Goals as goal

reduced_sum : (d a b x : ℕ) → 0 < d → Cong (2 * d) ((a + b) % (2 * d) + 2 * x % (2 * d)) (a + b + 2 * x)
reduced_sum d a b x pos = ring₂ d (a ∷ b ∷ x ∷ []) pos (search quote depth 30) (search quote depth 30) tt

product_phase : (d a b : ℕ) {r p q s x : ℕ} → 0 < d → r ≡ (p + q) % (2 * d) → p ≡ (a + b) % (2 * d) → q ≡ 2 * s % (2 * d) → s ≡ x → r ≡ (a + b + 2 * x) % (2 * d)
product_phase d a b {x = x} pos e f g h = rw (e, f, g, h) (reduced_sum d a b x pos).same

pub returns-clause-value : goal.returns-clause-value
returns-clause-value c =
    let a = c.args in
    c.from_entries.ensures.value (λ i. (at a.self.v i + at a.other.v i) % a.d) (λ i. (at a.self.w i + at a.other.w i) % a.d) (λ i x z l e. search rules)
    ∙ pauli_path (product_phase _ _ _ (omega arith) c.plus-phase.ensures.value c.plus.ensures.value c.reduced-twist.ensures.value c.sum_of_products.ensures.0)
    (sym (plus_tab _ _ _ _)) (sym (plus_tab _ _ _ _))
