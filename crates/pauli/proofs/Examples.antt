-- Bench examples c1 and c2 of document 01, and support words, computed from the definitions.
use mathlib.Core.Path.{◌≡◌, refl}
use mathlib.Core.List.{[], ◌∷◌}
use Rattle.pauli.specs.Pauli.{Pauli, product, power, unit_x, unit_z}
use Rattle.pauli.specs.Support.{mark, support_of, touched_of}

-- d = 4: Z times X is 2; 1; 1
pub c1 : product 4 (unit_z 1 0) (unit_x 1 0) ≡ record { phase = 2; v = 1 ∷ []; w = 1 ∷ [] }
c1 = refl

-- d = 4: (0; 1; 1) to the power 4 is 4; 0; 0
pub c2 : power 4 1 (record { phase = 0; v = 1 ∷ []; w = 1 ∷ [] }) 4 ≡ record { phase = 4; v = 0 ∷ []; w = 0 ∷ [] }
c2 = refl

-- d = 6, three qudits: v of the first and w of the third aren't 0, so that bits 0 and 2 are set
abbrev first_and_third : Pauli
first_and_third = record { phase = 7; v = 3 ∷ 0 ∷ 0 ∷ []; w = 0 ∷ 0 ∷ 1 ∷ [] }

pub support_read : (support_of first_and_third ≡ 5) × (touched_of first_and_third ≡ 2)
unfolding mark
support_read = (refl, refl)

-- its square touches the third qudit alone: 2·3 is 0 modulo 6. So does its product with itself, whose word isn't the union of the two
pub support_cancelled : (support_of (power 6 3 first_and_third 2) ≡ 4) × (support_of (product 6 first_and_third first_and_third) ≡ 4)
unfolding mark
support_cancelled = (refl, refl)
