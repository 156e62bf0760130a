-- Document 01's examples on numbers, by computing from the definitions.
use mathlib.Core.Path.{◌≡◌, refl}
use mathlib.Core.Bool.{true, false}
use mathlib.Core.List.{[], ◌∷◌}
use Rattle.arith.specs.Gcd.{gcd}
use Rattle.arith.specs.Units.{first_below, candidate, least_multiplier, inverse_of, divides, quotient}
use Rattle.arith.specs.Bytes.{tab}
use Rattle.arith.specs.Refusals.{dimension_of, width_of}

-- c11, as document 02's P6 has it: d = 6, the least multiplier of 2 and 1 is 5, which is −1
pub c11 : least_multiplier 6 2 1 ≡ 5
unfolding least_multiplier candidate first_below gcd
c11 = refl

-- the candidates in their order; for even d the last is d/2
pub candidates : (tab (candidate 7) 7 ≡ 0 ∷ 1 ∷ 6 ∷ 2 ∷ 5 ∷ 3 ∷ 4 ∷ []) × (tab (candidate 6) 6 ≡ 0 ∷ 1 ∷ 5 ∷ 2 ∷ 4 ∷ 3 ∷ [])
unfolding candidate tab
candidates = (refl, refl)

-- where 5 and −5 fit and nothing nearer, it is 5; −4 is written 836; for d = 2 it may be d/2
pub nearest : (least_multiplier 840 6 1 ≡ 5) × (least_multiplier 840 5 1 ≡ 836) × (least_multiplier 2 0 1 ≡ 1)
unfolding least_multiplier candidate first_below gcd
nearest = (refl, refl, refl)

-- gcd(0, d) = d and gcd(0, 0) = 0
pub gcd_of_zero : (gcd 0 6 ≡ 6) × (gcd 0 0 ≡ 0)
unfolding gcd
gcd_of_zero = (refl, refl)

-- a = b = 0: every m fits, so it is 0
pub least_of_zeros : least_multiplier 6 0 0 ≡ 0
unfolding least_multiplier candidate first_below gcd
least_of_zeros = refl

-- 7 is its own inverse modulo 12
pub inverse_of_seven : inverse_of 12 7 ≡ 7
unfolding inverse_of first_below
inverse_of_seven = refl

-- modulo 6: 2·4 is 2, and so is 5·4, which comes later; no multiple of 2 is 3
pub quotients : (quotient 6 4 2 ≡ 2) × (quotient 6 2 3 ≡ 6) × (quotient 6 5 1 ≡ 5)
unfolding quotient first_below
quotients = (refl, refl, refl)

pub divided : (divides 6 4 2 ≡ true) × (divides 6 2 3 ≡ false) × (divides 6 0 0 ≡ true)
unfolding divides gcd
divided = (refl, refl, refl)

-- d = 1 and 1,025 are refused, 2 and 1,024 taken; n likewise at 0, 17 and 1, 16
pub limits : (dimension_of 1 ≡ 1) × (dimension_of 1025 ≡ 1) × (dimension_of 2 ≡ 0) × (dimension_of 1024 ≡ 0) × (width_of 0 ≡ 2) × (width_of 17 ≡ 2) × (width_of 1 ≡ 0) × (width_of 16 ≡ 0)
unfolding dimension_of width_of
limits = (refl, refl, refl, refl, refl, refl, refl, refl)
