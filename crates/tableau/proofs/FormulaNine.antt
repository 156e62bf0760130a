-- Formula (9) of document 000 for the phases of the inverse, and a tableau for which it is wrong where the inverse matrix is taken modulo d, as the formula says:
-- d = 2, two qudits, rows A from 2 to 1 and S on 1. A matrix is given by its entries, row and column counted from 0.
use mathlib.Core.Path.{◌≡◌, refl, sym, ◌∙◌, ap}
use mathlib.Core.List.{List, [], ◌∷◌, ◌++◌, map}
use mathlib.Core.Bool.{cond}
use Prim.Native.Nat.{ℕ, zero, suc, ◌+◌, ◌*◌, ◌%◌}
use native.Mathlib.Omega.{arith}
use lib.Dec.{ltb, eqb}
use lib.ListN.{get_or}
use Rattle.arith.specs.Residues.{neg}
use Rattle.pauli.specs.Pauli.{Pauli}
use Rattle.tableau.specs.Tableau.{column, up_from}
use Rattle.tableau.specs.Inverse.{inverse}
use Rattle.tableau.proofs.Examples.{twisted}

-- the sum of f 0 to f (m − 1)
abbrev sum : ℕ → (ℕ → ℕ) → ℕ
sum zero f = 0
sum (suc m) f = sum m f + f m

-- entry i of column j: v below n, w from n on
abbrev entries_of : ℕ → List Pauli → ℕ → ℕ → ℕ
entries_of n t i j = get_or ((column n t j).v ++ (column n t j).w) i 0

-- U, with the unit matrix below and left
abbrev low : ℕ → ℕ → ℕ → ℕ
low n i j = cond (eqb i (j + n)) 1 0

-- Cᵀ·M·C
abbrev around : ℕ → (ℕ → ℕ → ℕ) → (ℕ → ℕ → ℕ) → ℕ → ℕ → ℕ
around n m c i j = sum (2 * n) (λ k. c k i * sum (2 * n) (λ l. m k l * c l j))

-- 2·P_upps(M) + P_diag(M)
abbrev upper : (ℕ → ℕ → ℕ) → ℕ → ℕ → ℕ
upper m i j = cond (ltb i j) (2 * m i j) (cond (eqb i j) (m i j) 0)

-- (9): h' = −C⁻ᵀ·(h + V_diag(Cᵀ·(2·P_upps(K) + P_diag(K))·C) − Cᵀ·V_diag(K)) modulo 2·d, where K = C⁻ᵀ·U·C⁻¹ and C⁻¹ is taken modulo d
abbrev formula_nine : ℕ → ℕ → List Pauli → List ℕ
formula_nine d n t =
    let c = entries_of n t in
    let inv = entries_of n (inverse d n t) in
    let k = around n (low n) inv in
    let inner : ℕ → ℕ = λ i. (column n t i).phase + around n (upper k) c i i + neg (2 * d) (sum (2 * n) (λ l. c l i * k l l)) in
    map (λ i. neg (2 * d) (sum (2 * n) (λ l. inv l i * inner l)) % (2 * d)) (up_from 0 (2 * n))

-- by the formula the second phase is 2, and in truth it is 0 (`twisted_undone` of Examples: composed in either order it gives the unit Paulis)
by_formula : formula_nine 2 2 twisted ≡ 1 ∷ 2 ∷ 0 ∷ 0 ∷ []
unfolding neg
by_formula = refl

in_truth : map (λ c. c.phase) (inverse 2 2 twisted) ≡ 1 ∷ 0 ∷ 0 ∷ 0 ∷ []
unfolding neg
in_truth = refl

pub formula_nine_differs : formula_nine 2 2 twisted ≡ map (λ c. c.phase) (inverse 2 2 twisted) → ⊥
formula_nine_differs e = let second : ◌≡◌ {A = ℕ} 2 0 = ap (λ (xs : List ℕ). get_or xs 1 0) (sym by_formula ∙ e ∙ in_truth) in omega arith
