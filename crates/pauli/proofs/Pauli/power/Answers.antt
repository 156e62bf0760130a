-- `pauli::Pauli::power` meets its contract: the closed form (`power_closed`), whose phase has w·v times an even number.
use Rattle.std.proofs.Common.{rules, ◌≡◌, sym, ◌∙◌, [], ◌∷◌, ℕ, zero, suc, ◌+◌, ◌*◌, ◌-◌, ◌%◌, ◌<◌, arith}
use native.Mathlib.Nat.{mul_assoc}
use Rattle.arith.proofs.Cong.{Cong}
use Rattle.arith.proofs.Ring.{ring₂, quote}
use Rattle.pauli.specs.Inner.View.{at}
use Rattle.pauli.proofs.Entries.{scaled_tab}
use Rattle.pauli.proofs.Group.{power_closed, next_square}
use Rattle.pauli.proofs.Ranges.{pauli_path}
use Rattle.pauli.proofs.Pauli.power.Goals as goal

-- k·(k − 1) is even
even : (k : ℕ) → (m : ℕ) × (k * (k - 1) ≡ 2 * m)
even k = let z = half k in (z.0, omega (arith, z.1, next_square k))
  where
    half : (k : ℕ) → (m : ℕ) × (k * k ≡ k + 2 * m)
    half zero = (0, omega arith)
    half (suc k) = let z = half k in (z.0 + k, omega (arith, z.1))

even_twist : (d k h m x : ℕ) → 0 < d → Cong (2 * d) (2 * (m * (x % d)) + k * h) (k * h + 2 * (m * x))
even_twist d k h m x pos = ring₂ d (k ∷ h ∷ m ∷ x ∷ []) pos (search quote depth 30) (search quote depth 30) tt

power_phase : (d k h : ℕ) {r o t s x : ℕ} → 0 < d → r ≡ (o * t + k * h) % (2 * d) → o ≡ k * (k - 1) → t ≡ s % d → s ≡ x → r ≡ (k * h + k * (k - 1) * x) % (2 * d)
power_phase d k h {x = x} pos e i j l =
    let z = even k in
    rw (e, i, j, l, z.1, mul_assoc 2 z.0 (x % d), mul_assoc 2 z.0 x) (even_twist d k h z.0 x pos).same

pub returns-clause-value : goal.returns-clause-value
returns-clause-value c =
    let a = c.args in
    c.from_entries.ensures.value (λ i. a.k.0 * at a.self.v i % a.d) (λ i. a.k.0 * at a.self.w i % a.d) (λ i x z l e. search rules)
    ∙ pauli_path (power_phase _ _ _ (omega arith) (rw (c.value-2.ensures, c.value.ensures) at c.reduced-phase.ensures.value) c.ordered_pairs.ensures.0 c.reduced-twist.ensures.value c.sum_of_products.ensures.0)
    (sym (scaled_tab _ _ _ _)) (sym (scaled_tab _ _ _ _))
    ∙ sym (power_closed a.d a.n a.k.0 (omega arith) c.requires.in_range)
