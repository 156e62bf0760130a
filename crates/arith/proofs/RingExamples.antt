-- The solver at work, on the identities that Paulis and gates over Z_d need. Phases are modulo 2·d, entries modulo d.
-- `ring₂ d (v ∷ s ∷ []) p (search quote depth 30) (search quote depth 30) tt`: the modulus 2·d, the atoms besides d, 0 < d, the two sides quoted, the test passed.
use mathlib.Core.Path.{◌≡◌}
use mathlib.Core.List.{[], ◌∷◌}
use Prim.Native.Nat.{ℕ, ◌+◌, ◌*◌, ◌-◌, ◌%◌, ◌≤◌, ◌<◌}
use native.Mathlib.Omega.{arith}
use Rattle.arith.proofs.Cong.{Cong}
use Rattle.arith.specs.Residues.{neg}
use Rattle.arith.proofs.Ring.{Q, var, con, ◌⊗◌, ring₁, ring₂, ring₁_by, times, quote}

-- 1. The gate S keeps products. An equation over ℕ with no negative: `omega` multiplies it out.
s_gate : (d k v s : ℕ) → k * ((v + s) * (v + s + d)) ≡ k * (v * (v + d)) + k * (s * (s + d)) + 2 * (k * (v * s))
s_gate d k v s = omega arith

-- The same by the solver.
s_gate_cong : (d k v s : ℕ) → 0 < d → Cong (2 * d) (k * ((v + s) * (v + s + d))) (k * (v * (v + d)) + k * (s * (s + d)) + 2 * (k * (v * s)))
s_gate_cong d k v s p = ring₂ d (k ∷ v ∷ s ∷ []) p (search quote depth 30) (search quote depth 30) tt

-- 2. The gate F keeps products.
f_gate : (d v w s t δ ε : ℕ) → 0 < d → Cong (2 * d) (δ + ε + 2 * (w * s) + neg (2 * d) (2 * ((v + s) * (w + t)))) ((δ + neg (2 * d) (2 * (v * w))) + (ε + neg (2 * d) (2 * (s * t))) + 2 * (v * neg (2 * d) t))
f_gate d v w s t δ ε p = ring₂ d (v ∷ w ∷ s ∷ t ∷ δ ∷ ε ∷ []) p (search quote depth 30) (search quote depth 30) tt

-- 3. The gate SUM keeps w·v.
sum_gate : (d k v1 v2 w1 w2 : ℕ) → 0 < d → Cong d ((w1 + neg d (k * w2)) * v1 + w2 * (v2 + k * v1)) (w1 * v1 + w2 * v2)
sum_gate d k v1 v2 w1 w2 p = ring₁ d (k ∷ v1 ∷ v2 ∷ w1 ∷ w2 ∷ []) p (search quote depth 30) (search quote depth 30) tt

-- The gate M keeps w·v: it needs that k' is k's inverse. The known congruence k·k' ≡ 1 is taken w·v times.
m_gate : (d k k' v w : ℕ) → 0 < d → Cong d (k * k') 1 → Cong d ((k' * w) * (k * v)) (w * v)
m_gate d k k' v w p h = ring₁_by d (k ∷ k' ∷ v ∷ w ∷ []) p (times (quote_w ⊗ quote_v) (quote_k ⊗ quote_k') (con 1) h) (search quote depth 30) (search quote depth 30) tt
  where
    quote_k : Q (d ∷ k ∷ k' ∷ v ∷ w ∷ []) d k
    quote_k = var 1

    quote_k' : Q (d ∷ k ∷ k' ∷ v ∷ w ∷ []) d k'
    quote_k' = var 2

    quote_v : Q (d ∷ k ∷ k' ∷ v ∷ w ∷ []) d v
    quote_v = var 3

    quote_w : Q (d ∷ k ∷ k' ∷ v ∷ w ∷ []) d w
    quote_w = var 4

-- The same, with everything found by `search` but the multiplier, whose value is written.
m_gate' : (d k k' v w : ℕ) → 0 < d → Cong d (k * k') 1 → Cong d ((k' * w) * (k * v)) (w * v)
m_gate' d k k' v w p h = ring₁_by d (k ∷ k' ∷ v ∷ w ∷ []) p (times {z = w * v} (search quote) (search quote) (search quote) h) (search quote depth 30) (search quote depth 30) tt

-- 4. Reduction: the solver sees through `% d` modulo d, and modulo 2·d through `% (2 * d)`, through `% d` under a factor 2, and in x·(x + d).
twice_mod : (d x : ℕ) → 0 < d → Cong (2 * d) (2 * (x % d)) (2 * x)
twice_mod d x p = ring₂ d (x ∷ []) p (search quote) (search quote) tt

square_mod : (d x : ℕ) → 0 < d → Cong (2 * d) ((x % d) * (x % d + d)) (x * (x + d))
square_mod d x p = ring₂ d (x ∷ []) p (search quote) (search quote) tt

-- S and F on a product, with every number reduced as a program would: S of the product, then the product of the two S's; F likewise.
s_gate_reduced : (d k δ ε v w s t : ℕ) → 0 < d
    → Cong (2 * d) ((δ + ε + 2 * (w * s)) % (2 * d) + k * (((v + s) % d) * ((v + s) % d + d)))
    ((δ + k * (v * (v + d))) % (2 * d) + (ε + k * (s * (s + d))) % (2 * d) + 2 * (((w + k * v) % d) * s))
s_gate_reduced d k δ ε v w s t p = ring₂ d (k ∷ δ ∷ ε ∷ v ∷ w ∷ s ∷ t ∷ []) p (search quote depth 30) (search quote depth 30) tt

f_gate_reduced : (d δ ε v w s t : ℕ) → 0 < d
    → Cong (2 * d) ((δ + ε + 2 * (w * s)) % (2 * d) + neg (2 * d) (2 * (((v + s) % d) * ((w + t) % d))))
    ((δ + neg (2 * d) (2 * (v * w))) % (2 * d) + (ε + neg (2 * d) (2 * (s * t))) % (2 * d) + 2 * (v * (neg d t % d)))
f_gate_reduced d δ ε v w s t p = ring₂ d (δ ∷ ε ∷ v ∷ w ∷ s ∷ t ∷ []) p (search quote depth 30) (search quote depth 30) tt

-- `d - t` as code writes it, where t ≤ d is known
f_gate_code : (d δ ε v w s t : ℕ) → 0 < d → t ≤ d → 2 * (((v + s) % d) * ((w + t) % d)) ≤ 2 * d
    → Cong (2 * d) ((δ + ε + 2 * (w * s)) % (2 * d) + (2 * d - 2 * (((v + s) % d) * ((w + t) % d))))
    ((δ + neg (2 * d) (2 * (v * w))) % (2 * d) + (ε + neg (2 * d) (2 * (s * t))) % (2 * d) + 2 * (v * (d - t)))
f_gate_code d δ ε v w s t p h l = ring₂ d (δ ∷ ε ∷ v ∷ w ∷ s ∷ t ∷ []) p (search quote depth 30) (search quote depth 30) tt

-- 5. Eight variables, degree 3.
big : (d a b c e f g h : ℕ) → 0 < d → Cong (2 * d) ((a + b + c) * (d + neg (2 * d) e + f) * (g + h)) ((g + h) * (a * d + neg (2 * d) (a * e) + a * f + b * d + b * neg (2 * d) e + b * f) + (g + h) * (c * (d + f + neg (2 * d) e)))
big d a b c e f g h p = ring₂ d (a ∷ b ∷ c ∷ e ∷ f ∷ g ∷ h ∷ []) p (search quote depth 30) (search quote depth 30) tt

-- More than 64 monomials, past what `omega` takes.
bigger : (a b c d e f g h : ℕ) → 0 < d → Cong d ((a + b + c + d) * (e + f + g + h) * (a + e + b + f)) ((a + e + b + f) * ((e + f + g + h) * a + (e + f + g + h) * b) + (a + e + b + f) * ((c + d) * (g + h + e + f)))
bigger a b c d e f g h p = ring₁ d (a ∷ b ∷ c ∷ e ∷ f ∷ g ∷ h ∷ []) p (search quote depth 30) (search quote depth 30) tt
