-- Refusal 5 of document 01's table, for a tableau: over all its columns.
use Rattle.std.specs.Prelude.{List, [], ◌∷◌, ℕ}
use Rattle.arith.specs.Refusals.{or_else}
use Rattle.pauli.specs.Pauli.{Pauli}
use Rattle.pauli.specs.Range.{pauli_range_of}

unfoldable pub tableau_range_of : ℕ → List Pauli → ℕ
tableau_range_of d [] = 0
tableau_range_of d (c ∷ cs) = or_else (pauli_range_of d c) (tableau_range_of d cs)
