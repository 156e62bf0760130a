-- A tableau in bytes (document 01, "Bytes"): 2n Paulis, one after the other.
use Rattle.std.specs.Prelude.{List, [], ◌∷◌, ◌++◌, ℕ, ◌+◌, ◌*◌}
use Rattle.arith.specs.Bytes.{tab, bytes_of}
use Rattle.pauli.specs.Pauli.{Pauli}
use Rattle.pauli.specs.Bytes.{decode_at, numbers_of}

-- how many bytes a tableau on n qudits takes: 2n Paulis of 1 + 2n numbers
abbrev pub tableau_bytes : ℕ → ℕ
tableau_bytes n = 2 * (2 * n * (1 + 2 * n))

-- column j of the tableau that the bytes hold
abbrev pub column_at : ℕ → ℕ → List ℕ → Pauli
column_at n j b = decode_at n (j * (1 + 2 * n)) b

unfoldable pub decode_tableau : ℕ → List ℕ → List Pauli
decode_tableau n b = tab (λ j. column_at n j b) (2 * n)

-- the numbers of the columns, one column after the other
abbrev pub tableau_numbers : List Pauli → List ℕ
tableau_numbers [] = []
tableau_numbers (c ∷ cs) = numbers_of c ++ tableau_numbers cs

unfoldable pub encode_tableau : List Pauli → List ℕ
encode_tableau t = bytes_of (tableau_numbers t)
