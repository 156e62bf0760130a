-- Refusals 7 and 8 of document 01's table as tests that a program can run: over all columns j, and in it over all k > j; then over all columns.
use Rattle.std.specs.Prelude.{List, [], ◌∷◌, map, Bool, true, ◌&&◌, ℕ, suc, ◌+◌, ◌*◌, ◌-◌, ◌%◌, eqb}
use Rattle.arith.specs.Refusals.{or_else, pairing_of, parity_of}
use Rattle.pauli.specs.Pauli.{Pauli, comm, parity}
use Rattle.tableau.specs.Tableau.{column, paired, up_from}

-- every number of the list passes
abbrev pub all : (ℕ → Bool) → List ℕ → Bool
all test [] = true
all test (j ∷ js) = test j && all test js

-- columns j < k; column j and every later one; every column
abbrev pub pair_passes : ℕ → ℕ → List Pauli → ℕ → ℕ → Bool
pair_passes d n t j k = eqb (comm d (column n t j) (column n t k)) (paired d n j k)

abbrev pub later_pass : ℕ → ℕ → List Pauli → ℕ → Bool
later_pass d n t j = all (pair_passes d n t j) (up_from (suc j) (2 * n - suc j))

abbrev pub pairing_holds : ℕ → ℕ → List Pauli → Bool
pairing_holds d n t = all (later_pass d n t) (up_from 0 (2 * n))

abbrev pub even_passes : ℕ → ℕ → List Pauli → ℕ → Bool
even_passes d n t j = eqb (parity d (column n t j)) 0

abbrev pub parity_holds : ℕ → ℕ → List Pauli → Bool
parity_holds d n t = all (even_passes d n t) (up_from 0 (2 * n))

-- 7 for pairing, then 8 for parity, 0 for neither
abbrev pub soundness_of : ℕ → ℕ → List Pauli → ℕ
soundness_of d n t = or_else (pairing_of (pairing_holds d n t)) (parity_of (parity_holds d n t))

-- of two tableaus: 7 of both, then 8 of both
abbrev pub both_soundness_of : ℕ → ℕ → List Pauli → List Pauli → ℕ
both_soundness_of d n t u =
    or_else (pairing_of (pairing_holds d n t))
    (or_else (pairing_of (pairing_holds d n u))
    (or_else (parity_of (parity_holds d n t))
    (parity_of (parity_holds d n u))))

-- ---- what refusal 8 advises: 1 is added, modulo 2·d, to the phase of each column whose sum is odd (there `parity` is 1, else 0). `mended_sound` of proofs/Mended says that this makes the tableau sound.
abbrev pub mended_column : ℕ → Pauli → Pauli
mended_column d c = record { phase = (c.phase + parity d c) % (2 * d); v = c.v; w = c.w }

abbrev pub mended : ℕ → List Pauli → List Pauli
mended d t = map (mended_column d) t
