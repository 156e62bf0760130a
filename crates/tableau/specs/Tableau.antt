-- Tableaus: 2·n columns, the images of the unit Paulis (document 01, "Tableaus"). Columns count from 0 here.
use Rattle.std.specs.Prelude.{cond, ◌≡◌, List, [], ◌∷◌, ◌++◌, map, ℕ, zero, suc, ◌+◌, ◌*◌, ◌-◌, ◌<◌, length, get_or, eqb}
use Rattle.pauli.specs.Pauli.{Pauli, InRange, product, power, comm, unit, parity, phase_only}
use Rattle.gates.specs.Row.{Row, run}

-- the numbers k, k + 1, .. of which there are m
abbrev pub up_from : ℕ → ℕ → List ℕ
up_from k zero = []
up_from k (suc m) = k ∷ up_from (suc k) m

abbrev pub units : ℕ → List Pauli
units n = map (unit n) (up_from 0 (2 * n))

abbrev pub tableau_of : ℕ → ℕ → List Row → List Pauli
tableau_of d n rows = map (run d rows) (units n)

-- a column to look at, past the end the identity
abbrev pub column : ℕ → List Pauli → ℕ → Pauli
column n t j = get_or t j (phase_only n 0)

-- the columns to the powers, multiplied onto p from the left to the right
abbrev pub multiplied : ℕ → ℕ → Pauli → List Pauli → List ℕ → Pauli
multiplied d n p [] ks = p
multiplied d n p (c ∷ cs) [] = p
multiplied d n p (c ∷ cs) (k ∷ ks) = multiplied d n (product d p (power d n c k)) cs ks

-- the image of a Pauli: its phase alone, times column 1 to the v1, .., times column 2n to the wn
abbrev pub image : ℕ → ℕ → List Pauli → Pauli → Pauli
image d n t p = multiplied d n (phase_only n p.phase) t (p.v ++ p.w)

pub data AllInRange (d n : ℕ) : List Pauli → Type 0 where
  none : AllInRange d n []
  more : {c : Pauli} {cs : List Pauli} → InRange d n c → AllInRange d n cs → AllInRange d n (c ∷ cs)

-- the commutation number that columns j < k must have
abbrev pub paired : ℕ → ℕ → ℕ → ℕ → ℕ
paired d n j k = cond (eqb k (j + n)) (d - 1) 0

pub record Pairing (d n : ℕ) (t : List Pauli) : Type 0 where
  pub pairs : (j k : ℕ) → j < k → k < 2 * n → comm d (column n t j) (column n t k) ≡ paired d n j k

pub record Even (d n : ℕ) (t : List Pauli) : Type 0 where
  pub even : (j : ℕ) → j < 2 * n → parity d (column n t j) ≡ 0

pub record WellFormed (d n : ℕ) (t : List Pauli) : Type 0 where
  pub columns : length t ≡ 2 * n
  pub ranges : AllInRange d n t

pub record Sound (d n : ℕ) (t : List Pauli) : Type 0 where
  pub pairing : Pairing d n t
  pub parities : Even d n t

-- composition: the first tableau, then the second
abbrev pub compose : ℕ → ℕ → List Pauli → List Pauli → List Pauli
compose d n first second = map (image d n second) first
