-- The refusals of a call in two parts: what the lengths decide, 1 to 4, and what the numbers decide, 5, 7 and 8.
use Rattle.std.specs.Prelude.{List, ℕ, ◌/◌, length, take}
use Rattle.arith.specs.Bytes.{tab}
use Rattle.arith.specs.Refusals.{or_else, given_of, size_of, whole_of, room_of}
use Rattle.pauli.specs.Pauli.{Pauli}
use Rattle.pauli.specs.Bytes.{pauli_bytes}
use Rattle.pauli.specs.Range.{pauli_range_of}
use Rattle.tableau.specs.Bytes.{tableau_bytes, column_at}
use Rattle.tableau.specs.Range.{tableau_range_of}
use Rattle.tableau.specs.Soundness.{soundness_of, both_soundness_of}

-- ---- by the lengths: 1 and 2, then 3 of a tableau; for the image 3 of the Pauli, for the composition 3 of the second tableau; then 4
abbrev pub sized_of : ℕ → ℕ → ℕ → ℕ
sized_of d n size = or_else (given_of d n) (size_of (tableau_bytes n) size)

abbrev pub image_lengths : ℕ → ℕ → ℕ → ℕ → ℕ → ℕ
image_lengths d n first second room = or_else (sized_of d n first) (or_else (size_of (pauli_bytes n) second) (room_of (pauli_bytes n) room))

abbrev pub compose_lengths : ℕ → ℕ → ℕ → ℕ → ℕ → ℕ
compose_lengths d n first second room = or_else (sized_of d n first) (or_else (size_of (tableau_bytes n) second) (room_of (tableau_bytes n) room))

-- for a batch 3 of its bytes, then 4 of as many
abbrev pub images_lengths : ℕ → ℕ → ℕ → ℕ → ℕ → ℕ
images_lengths d n first second room = or_else (sized_of d n first) (or_else (whole_of (pauli_bytes n) 512 second) (room_of second room))

abbrev pub inverse_lengths : ℕ → ℕ → ℕ → ℕ → ℕ
inverse_lengths d n size room = or_else (sized_of d n size) (room_of (tableau_bytes n) room)

-- ---- by the numbers: 5, then 7, then 8, of a tableau, of a tableau and a Pauli, of two tableaus
abbrev pub tests_of : ℕ → ℕ → List Pauli → ℕ
tests_of d n t = or_else (tableau_range_of d t) (soundness_of d n t)

abbrev pub image_tests : ℕ → ℕ → List Pauli → Pauli → ℕ
image_tests d n t p = or_else (tableau_range_of d t) (or_else (pauli_range_of d p) (soundness_of d n t))

abbrev pub compose_tests : ℕ → ℕ → List Pauli → List Pauli → ℕ
compose_tests d n t u = or_else (or_else (tableau_range_of d t) (tableau_range_of d u)) (both_soundness_of d n t u)

-- of a tableau and a batch: 5 of the tableau and of the first Pauli, 7, 8, then 5 of every Pauli
abbrev pub images_tests : ℕ → ℕ → List Pauli → List Pauli → ℕ
images_tests d n t ps = or_else (tableau_range_of d t) (or_else (tableau_range_of d (take 1 ps)) (or_else (soundness_of d n t) (tableau_range_of d ps)))

-- the first m Paulis that the bytes hold, one after the other
abbrev pub paulis_at : ℕ → List ℕ → ℕ → List Pauli
paulis_at n b m = tab (λ j. column_at n j b) m

-- all that the bytes of a batch hold
abbrev pub decode_batch : ℕ → List ℕ → List Pauli
decode_batch n b = paulis_at n b (length b / pauli_bytes n)
