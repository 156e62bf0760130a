-- The byte layout of a Pauli (document 01, "Bytes"): its phase, then v1 to vn, then w1 to wn, each number two bytes.
use Rattle.std.specs.Prelude.{List, ◌∷◌, ◌++◌, ℕ, ◌+◌, ◌*◌}
use Rattle.arith.specs.Bytes.{number_at, numbers_at, bytes_of}
use Rattle.pauli.specs.Pauli.{Pauli}

-- how many numbers a Pauli on n qudits takes, and how many bytes
abbrev pub pauli_numbers : ℕ → ℕ
pauli_numbers n = 1 + 2 * n

abbrev pub pauli_bytes : ℕ → ℕ
pauli_bytes n = 2 * pauli_numbers n

-- the Pauli on n qudits that starts at number k of the bytes
abbrev pub decode_at : ℕ → ℕ → List ℕ → Pauli
decode_at n k b = record { phase = number_at b k; v = numbers_at b (k + 1) n; w = numbers_at b (k + 1 + n) n }

abbrev pub decode : ℕ → List ℕ → Pauli
decode n b = decode_at n 0 b

-- the numbers of a Pauli in their order, and their bytes
abbrev pub numbers_of : Pauli → List ℕ
numbers_of p = p.phase ∷ p.v ++ p.w

abbrev pub encode : Pauli → List ℕ
encode p = bytes_of (numbers_of p)
