-- The inverse and the image at given tableaus, and tableaus of C and W, computed.
use mathlib.Core.Path.{◌≡◌, refl}
use mathlib.Core.List.{List, [], ◌∷◌}
use Rattle.arith.specs.Residues.{neg}
use Rattle.pauli.specs.Pauli.{Pauli}
use Rattle.gates.specs.Row.{F, S, A, X, Z, C, W, run}
use Rattle.tableau.specs.Tableau.{tableau_of, image, units, compose}
use Rattle.tableau.specs.Inverse.{inverse}

inverse_f : inverse 3 1 (tableau_of 3 1 (F 0 1 ∷ [])) ≡ tableau_of 3 1 (F 0 3 ∷ [])
unfolding neg
inverse_f = refl

inverse_s : inverse 2 1 (tableau_of 2 1 (S 0 1 ∷ [])) ≡ tableau_of 2 1 (S 0 3 ∷ [])
unfolding neg
inverse_s = refl

-- for an even d, a list of two qudits and the list that undoes it
inverse_list : inverse 4 2 (tableau_of 4 2 (F 0 1 ∷ A 0 1 3 ∷ S 1 5 ∷ X 0 2 ∷ Z 1 3 ∷ [])) ≡ tableau_of 4 2 (Z 1 1 ∷ X 0 2 ∷ S 1 3 ∷ A 0 1 1 ∷ F 0 3 ∷ [])
unfolding neg
inverse_list = refl

both_ways : compose 4 2 (inverse 4 2 (tableau_of 4 2 (F 0 1 ∷ A 0 1 3 ∷ S 1 5 ∷ []))) (tableau_of 4 2 (F 0 1 ∷ A 0 1 3 ∷ S 1 5 ∷ [])) ≡ units 2
unfolding neg
both_ways = refl

image_list : image 4 2 (tableau_of 4 2 (F 0 1 ∷ A 0 1 3 ∷ S 1 5 ∷ [])) (record { phase = 5; v = 1 ∷ 3 ∷ []; w = 2 ∷ 3 ∷ [] }) ≡ run 4 (F 0 1 ∷ A 0 1 3 ∷ S 1 5 ∷ []) (record { phase = 5; v = 1 ∷ 3 ∷ []; w = 2 ∷ 3 ∷ [] })
unfolding neg
image_list = refl

-- where a formula for the phases of the inverse that takes entries modulo d goes wrong: d = 2, rows A from 2 to 1 and S on 1
abbrev pub twisted : List Pauli
twisted = tableau_of 2 2 (A 1 0 1 ∷ S 0 1 ∷ [])

twisted_undone : (compose 2 2 twisted (inverse 2 2 twisted) ≡ units 2) × (compose 2 2 (inverse 2 2 twisted) twisted ≡ units 2)
unfolding neg
twisted_undone = (refl, refl)

-- ---- C and W (document 02, P3), d = 4
-- W twice is nothing
pub w_twice : tableau_of 4 2 (W 0 1 ∷ W 0 1 ∷ []) ≡ units 2
w_twice = refl

-- C is F, A and F, and W is F and three A rows, as document 002 has them, (12) and (9): its A of power k is A of power d − k
pub c_rows : tableau_of 4 2 (C 0 1 3 ∷ []) ≡ tableau_of 4 2 (F 1 1 ∷ A 0 1 1 ∷ F 1 3 ∷ [])
unfolding neg
c_rows = refl

pub w_rows : tableau_of 4 2 (W 0 1 ∷ []) ≡ tableau_of 4 2 (F 0 2 ∷ A 0 1 3 ∷ A 1 0 1 ∷ A 0 1 3 ∷ [])
unfolding neg
w_rows = refl

-- C by its columns: unit Paulis X of either qudit get w of the other
pub c_columns : tableau_of 3 2 (C 0 1 2 ∷ []) ≡ record { phase = 0; v = 1 ∷ 0 ∷ []; w = 0 ∷ 2 ∷ [] } ∷ record { phase = 0; v = 0 ∷ 1 ∷ []; w = 2 ∷ 0 ∷ [] } ∷ record { phase = 0; v = 0 ∷ 0 ∷ []; w = 1 ∷ 0 ∷ [] } ∷ record { phase = 0; v = 0 ∷ 0 ∷ []; w = 0 ∷ 1 ∷ [] } ∷ []
c_columns = refl
