-- Which columns a row on the qudits i and j changes.
use Rattle.std.specs.Prelude.{cond, List, map, ℕ}
use Rattle.pauli.specs.Pauli.{Pauli}
use Rattle.pauli.specs.Inner.Touched.{touched, still}

-- 0 for a column that no row on them changes, 1 for any other
abbrev pub changes : ℕ → ℕ → ℕ → Pauli → ℕ
changes d i j p = cond (still d (touched i j p)) 0 1

-- those of the columns, in their order
abbrev pub changing : ℕ → ℕ → ℕ → List Pauli → List ℕ
changing d i j t = map (changes d i j) t
