-- Refusal 5 of document 01's table, for Paulis: a v or a w is d or more, or a phase 2·d or more.
use Rattle.std.specs.Prelude.{List, [], ◌∷◌, ℕ, ◌*◌}
use Rattle.arith.specs.Refusals.{or_else, range_of}
use Rattle.pauli.specs.Pauli.{Pauli}

-- a number of the list is d or more
unfoldable pub bounds_of : ℕ → List ℕ → ℕ
bounds_of d [] = 0
bounds_of d (x ∷ xs) = or_else (range_of d x) (bounds_of d xs)

-- of a Pauli
unfoldable pub pauli_range_of : ℕ → Pauli → ℕ
pauli_range_of d p = or_else (range_of (2 * d) p.phase) (or_else (bounds_of d p.v) (bounds_of d p.w))

-- of one of two Paulis
unfoldable pub pair_range_of : ℕ → Pauli → Pauli → ℕ
pair_range_of d p q = or_else (pauli_range_of d p) (pauli_range_of d q)
