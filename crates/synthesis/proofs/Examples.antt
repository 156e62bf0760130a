-- The reduction at work on given tableaus, by computing.
use mathlib.Core.Path.{◌≡◌, refl}
use mathlib.Core.List.{List, [], ◌∷◌}
use Rattle.arith.specs.Residues.{neg}
use Rattle.arith.specs.Gcd.{gcd, euclid}
use Rattle.arith.specs.Units.{candidate, least_multiplier, inverse_of, first_below, divides, quotient}
use Rattle.pauli.specs.Pauli.{Pauli}
use Rattle.gates.specs.Row.{F, S, A, M, X, Z}
use Rattle.tableau.specs.Tableau.{tableau_of, units}
use Rattle.synthesis.specs.Inner.Reduce.{near_power, straighten, gathered, first_column, partner_straightened, partner_turned, second_column, stage, reduce, synthesised}

-- the text program's example
abbrev whole : List Pauli
whole =
    record { phase = 0; v = 0 ∷ 0 ∷ []; w = 1 ∷ 0 ∷ [] } ∷
    record { phase = 6; v = 0 ∷ 1 ∷ []; w = 0 ∷ 0 ∷ [] } ∷
    record { phase = 2; v = 3 ∷ 3 ∷ []; w = 0 ∷ 0 ∷ [] } ∷
    record { phase = 0; v = 0 ∷ 0 ∷ []; w = 3 ∷ 1 ∷ [] } ∷ []

whole_tableau : tableau_of 4 2 (F 0 1 ∷ A 0 1 1 ∷ Z 1 3 ∷ []) ≡ whole
unfolding neg
whole_tableau = refl

whole_rows : synthesised 4 2 whole ≡ Z 1 3 ∷ X 0 3 ∷ F 0 1 ∷ A 0 1 1 ∷ F 0 3 ∷ F 0 1 ∷ []
unfolding synthesised reduce stage second_column partner_turned partner_straightened first_column gathered straighten near_power divides quotient least_multiplier candidate inverse_of first_below gcd euclid neg
whole_rows = refl

-- a row of each kind comes back, two A rows to qudit 0 come back, and the identity is the empty list
come_back :
    (synthesised 4 2 (tableau_of 4 2 (A 0 1 1 ∷ [])) ≡ A 0 1 1 ∷ [])
    × (synthesised 4 2 (tableau_of 4 2 (A 1 0 3 ∷ [])) ≡ A 1 0 3 ∷ [])
    × (synthesised 4 3 (tableau_of 4 3 (A 2 0 1 ∷ A 1 0 3 ∷ [])) ≡ A 2 0 1 ∷ A 1 0 3 ∷ [])
    × (synthesised 6 2 (tableau_of 6 2 (F 1 1 ∷ [])) ≡ F 1 1 ∷ [])
    × (synthesised 6 2 (tableau_of 6 2 (F 1 3 ∷ [])) ≡ F 1 3 ∷ [])
    × (synthesised 2 2 (tableau_of 2 2 (S 0 1 ∷ [])) ≡ S 0 1 ∷ [])
    × (synthesised 6 2 (tableau_of 6 2 (M 0 5 ∷ [])) ≡ M 0 5 ∷ [])
    × (synthesised 3 2 (tableau_of 3 2 (X 1 2 ∷ [])) ≡ X 1 2 ∷ [])
    × (synthesised 3 2 (tableau_of 3 2 (Z 1 2 ∷ [])) ≡ Z 1 2 ∷ [])
    × (synthesised 6 2 (units 2) ≡ [])
unfolding synthesised reduce stage second_column partner_turned partner_straightened first_column gathered straighten near_power divides quotient least_multiplier candidate inverse_of first_below gcd euclid neg
come_back = (refl, refl, refl, refl, refl, refl, refl, refl, refl, refl)

-- d = 6: no entry is a unit
abbrev six : List Pauli
six = record { phase = 0; v = 2 ∷ []; w = 3 ∷ [] } ∷ record { phase = 0; v = 3 ∷ []; w = 2 ∷ [] } ∷ []

-- tableaus that no list was known for, as an independent program computes them row for row; in the last one v of the first partner column is 0 at one later qudit and not at the other
abbrev mixed_six : List Pauli
mixed_six =
    record { phase = 5; v = 1 ∷ 1 ∷ []; w = 5 ∷ 4 ∷ [] } ∷
    record { phase = 4; v = 4 ∷ 3 ∷ []; w = 4 ∷ 4 ∷ [] } ∷
    record { phase = 6; v = 4 ∷ 4 ∷ []; w = 5 ∷ 2 ∷ [] } ∷
    record { phase = 5; v = 0 ∷ 3 ∷ []; w = 1 ∷ 5 ∷ [] } ∷ []

abbrev mixed_four : List Pauli
mixed_four =
    record { phase = 1; v = 3 ∷ 2 ∷ 1 ∷ []; w = 2 ∷ 2 ∷ 1 ∷ [] } ∷
    record { phase = 7; v = 2 ∷ 1 ∷ 0 ∷ []; w = 3 ∷ 3 ∷ 3 ∷ [] } ∷
    record { phase = 5; v = 2 ∷ 1 ∷ 0 ∷ []; w = 0 ∷ 1 ∷ 0 ∷ [] } ∷
    record { phase = 5; v = 1 ∷ 1 ∷ 1 ∷ []; w = 1 ∷ 3 ∷ 1 ∷ [] } ∷
    record { phase = 5; v = 2 ∷ 3 ∷ 1 ∷ []; w = 3 ∷ 1 ∷ 0 ∷ [] } ∷
    record { phase = 4; v = 3 ∷ 3 ∷ 2 ∷ []; w = 2 ∷ 0 ∷ 0 ∷ [] } ∷ []

abbrev mixed_twelve : List Pauli
mixed_twelve =
    record { phase = 23; v = 5 ∷ 8 ∷ []; w = 3 ∷ 3 ∷ [] } ∷
    record { phase = 9; v = 6 ∷ 1 ∷ []; w = 9 ∷ 3 ∷ [] } ∷
    record { phase = 13; v = 7 ∷ 3 ∷ []; w = 11 ∷ 6 ∷ [] } ∷
    record { phase = 15; v = 7 ∷ 2 ∷ []; w = 11 ∷ 4 ∷ [] } ∷ []

abbrev partly_none : List Pauli
partly_none =
    record { phase = 0; v = 0 ∷ 0 ∷ 0 ∷ []; w = 1 ∷ 0 ∷ 0 ∷ [] } ∷
    record { phase = 1; v = 0 ∷ 1 ∷ 0 ∷ []; w = 4 ∷ 5 ∷ 0 ∷ [] } ∷
    record { phase = 8; v = 0 ∷ 0 ∷ 1 ∷ []; w = 2 ∷ 0 ∷ 0 ∷ [] } ∷
    record { phase = 2; v = 5 ∷ 2 ∷ 0 ∷ []; w = 0 ∷ 0 ∷ 4 ∷ [] } ∷
    record { phase = 4; v = 0 ∷ 1 ∷ 0 ∷ []; w = 0 ∷ 0 ∷ 0 ∷ [] } ∷
    record { phase = 4; v = 0 ∷ 0 ∷ 0 ∷ []; w = 0 ∷ 0 ∷ 1 ∷ [] } ∷ []

rows :
    (synthesised 6 1 six ≡ Z 0 3 ∷ F 0 1 ∷ S 0 11 ∷ F 0 3 ∷ S 0 2 ∷ F 0 3 ∷ S 0 11 ∷ [])
    × (synthesised 6 2 mixed_six ≡ X 1 5 ∷ X 0 2 ∷ Z 0 1 ∷ F 1 1 ∷ S 1 3 ∷ F 1 3 ∷ M 1 5 ∷ S 1 2 ∷ F 0 1 ∷ S 0 2 ∷ F 0 3 ∷ A 1 0 2 ∷ A 0 1 1 ∷ S 1 10 ∷ S 0 11 ∷ [])
    × (synthesised 4 3 mixed_four ≡ X 2 3 ∷ Z 1 3 ∷ Z 0 3 ∷ F 2 1 ∷ S 2 7 ∷ F 2 3 ∷ S 2 2 ∷ F 2 1 ∷ F 1 1 ∷ S 1 1 ∷ A 1 2 3 ∷ F 1 3 ∷ S 2 2 ∷ F 2 1 ∷ A 1 2 1 ∷ S 2 2 ∷ F 2 3 ∷ F 0 1 ∷ S 0 1 ∷ A 0 2 2 ∷ A 0 1 1 ∷ F 0 3 ∷ A 0 2 1 ∷ A 0 1 2 ∷ M 0 3 ∷ S 2 1 ∷ S 1 7 ∷ S 0 2 ∷ [])
    × (synthesised 12 2 mixed_twelve ≡ X 1 11 ∷ X 0 11 ∷ Z 0 10 ∷ F 1 1 ∷ S 1 21 ∷ F 1 3 ∷ S 1 6 ∷ F 0 1 ∷ S 0 1 ∷ A 0 1 7 ∷ F 0 3 ∷ S 1 20 ∷ F 1 3 ∷ S 1 23 ∷ A 0 1 1 ∷ M 0 5 ∷ S 1 20 ∷ F 1 3 ∷ S 1 23 ∷ S 0 3 ∷ [])
    × (synthesised 6 3 partly_none ≡ X 2 4 ∷ Z 2 4 ∷ X 1 4 ∷ Z 1 4 ∷ X 0 5 ∷ F 2 1 ∷ F 1 1 ∷ S 1 11 ∷ F 1 3 ∷ S 1 11 ∷ F 0 1 ∷ A 0 2 4 ∷ A 0 1 4 ∷ F 0 3 ∷ F 2 3 ∷ F 0 1 ∷ [])
unfolding synthesised reduce stage second_column partner_turned partner_straightened first_column gathered straighten near_power divides quotient least_multiplier candidate inverse_of first_below gcd euclid neg
rows = (refl, refl, refl, refl, refl)
