-- The bench examples c1 to c12 of document 01, from the definitions, by computing. Qudits count from 0 here.
use mathlib.Core.Path.{◌≡◌, refl}
use mathlib.Core.List.{[], ◌∷◌, List}
use Prim.Native.Nat.{ℕ}
use Rattle.arith.specs.Residues.{neg}
use Rattle.arith.specs.Refusals.{pairing_of, parity_of}
use Rattle.arith.specs.Gcd.{gcd, euclid}
use Rattle.arith.specs.Units.{first_below, inverse_of, candidate, least_multiplier, divides, quotient}
use Rattle.pauli.specs.Pauli.{Pauli, product, power, unit_x, unit_z}
use Rattle.gates.specs.Row.{F, S, A, Z, apply}
use Rattle.tableau.specs.Tableau.{tableau_of}
use Rattle.tableau.specs.Soundness.{soundness_of}
use Rattle.synthesis.specs.Inner.Reduce.{near_power, straighten, gathered, first_column, partner_straightened, partner_turned, second_column, stage, reduce, synthesised}

-- a Pauli of one qudit
abbrev pauli : ℕ → ℕ → ℕ → Pauli
pauli h x z = record { phase = h; v = x ∷ []; w = z ∷ [] }

-- a tableau of one qudit
abbrev columns : Pauli → Pauli → List Pauli
columns a b = a ∷ b ∷ []

abbrev pub c1 : Type 0
c1 = product 4 (unit_z 1 0) (unit_x 1 0) ≡ pauli 2 1 1

abbrev pub c2 : Type 0
c2 = power 4 1 (pauli 0 1 1) 4 ≡ pauli 4 0 0

abbrev pub c3 : Type 0
c3 = apply 4 (F 0 1) (pauli 0 1 1) ≡ pauli 6 3 1

abbrev pub c4 : Type 0
c4 = apply 4 (S 0 1) (pauli 0 3 0) ≡ pauli 5 3 3

abbrev pub c5 : Type 0
c5 = apply 3 (A 0 1 1) (record { phase = 0; v = 1 ∷ 0 ∷ []; w = 0 ∷ 1 ∷ [] }) ≡ record { phase = 0; v = 1 ∷ 1 ∷ []; w = 2 ∷ 1 ∷ [] }

-- parity
abbrev pub c6 : Type 0
c6 = soundness_of 2 1 (columns (pauli 0 1 1) (pauli 0 0 1)) ≡ 8

-- sound, and S power 3 does it
abbrev pub c7 : Type 0
c7 = (soundness_of 2 1 (columns (pauli 1 1 1) (pauli 0 0 1)) ≡ 0) × (tableau_of 2 1 (S 0 3 ∷ []) ≡ columns (pauli 1 1 1) (pauli 0 0 1))

-- sound, though no entry is a unit; and done
abbrev pub c8 : Type 0
c8 = (soundness_of 6 1 (columns (pauli 0 2 3) (pauli 0 3 2)) ≡ 0) × (gcd 2 6 ≡ 2) × (gcd 3 6 ≡ 3)
    × (tableau_of 6 1 (synthesised 6 1 (columns (pauli 0 2 3) (pauli 0 3 2))) ≡ columns (pauli 0 2 3) (pauli 0 3 2))

-- pairing
abbrev pub c9 : Type 0
c9 = soundness_of 4 1 (columns (pauli 0 2 0) (pauli 0 0 1)) ≡ 7

-- parity, and with phase 2 sound
abbrev pub c10 : Type 0
c10 = (soundness_of 4 1 (columns (pauli 1 1 0) (pauli 0 0 1)) ≡ 8) × (soundness_of 4 1 (columns (pauli 2 1 0) (pauli 0 0 1)) ≡ 0)

abbrev pub c11 : Type 0
c11 = least_multiplier 6 2 1 ≡ 5

-- the same on both unit Paulis, hence on every Pauli
abbrev pub c12 : Type 0
c12 = tableau_of 4 1 (S 0 4 ∷ []) ≡ tableau_of 4 1 (Z 0 2 ∷ [])

pub bench : c1 × c2 × c3 × c4 × c5 × c6 × c7 × c8 × c9 × c10 × c11 × c12
unfolding synthesised reduce stage second_column partner_turned partner_straightened first_column gathered straighten near_power divides quotient least_multiplier candidate inverse_of first_below gcd euclid neg pairing_of parity_of
bench = (refl, refl, refl, refl, refl, refl, (refl, refl), (refl, refl, refl, refl), refl, (refl, refl), refl, refl)
