-- The public calls on lists: the refusal of each, in the order of the table over all its inputs, and its answer.
use Rattle.std.specs.Prelude.{◌≡◌, true, List, ℕ, ◌*◌, ◌<◌, length, take}
use Rattle.arith.specs.Refusals.{or_else, given_of, size_of, list_size_of, room_of, row_of}
use Rattle.pauli.specs.Bytes.{pauli_bytes, decode, encode}
use Rattle.pauli.specs.Range.{pauli_range_of}
use Rattle.arith.specs.Answers.{Written}
use Rattle.gates.specs.Row.{AllLegal, run}
use Rattle.gates.specs.Ticks.{ticks}
use Rattle.gates.specs.Written.{list_rows, rows_of, encode_rows, all_legal_rows}
use Rattle.gates.specs.Load.{load_rows}

-- ---- a list run on the Pauli p, with an output of so many bytes: 1, 2, 3 of the list and of p, 4, 5, 6
abbrev pub run_refusal : ℕ → ℕ → List ℕ → List ℕ → ℕ → ℕ
run_refusal d n list p room =
    or_else (given_of d n)
    (or_else (list_size_of (length list))
    (or_else (size_of (pauli_bytes n) (length p))
    (or_else (room_of (pauli_bytes n) room)
    (or_else (pauli_range_of d (decode n p))
    (row_of (all_legal_rows d n (list_rows list)))))))

-- what the list carries p to
abbrev pub run_bytes : ℕ → ℕ → List ℕ → List ℕ → List ℕ
run_bytes d n list p = encode (run d (rows_of list) (decode n p))

-- ---- ticks: 1, 2, 3, 6
abbrev pub ticks_refusal : ℕ → ℕ → List ℕ → ℕ
ticks_refusal d n list =
    or_else (given_of d n)
    (or_else (list_size_of (length list))
    (row_of (all_legal_rows d n (list_rows list))))

-- the highest tick used
abbrev pub ticks_of : List ℕ → ℕ
ticks_of list = ticks (rows_of list)

-- ---- a load of `count` rows, with an output of so many bytes: 1, 2, 3 where count is above 4,096, 4
abbrev pub load_refusal : ℕ → ℕ → ℕ → ℕ → ℕ
load_refusal d n count room =
    or_else (given_of d n)
    (or_else (list_size_of (8 * count))
    (room_of (8 * count) room))

-- the list that the rule gives
abbrev pub load_bytes : ℕ → ℕ → ℕ → ℕ → List ℕ
load_bytes d n seed count = encode_rows (load_rows d n seed count)

-- the call promises exactly that list at the front of its output, and that it is legal
pub record Loaded (d n seed count : ℕ) (old new : List ℕ) (r : ℕ) : Type 0 where
  pub written : Written (load_refusal d n count (length old)) (load_bytes d n seed count) old new r
  pub legal : r ≡ 0 → all_legal_rows d n (list_rows (take (8 * count) new)) ≡ true

-- every list that the rule gives is legal, for every d above 1, every n above 0, every seed and number of rows (proved: `loads_legal`, proofs/Loads)
abbrev pub LoadsLegal : Type 0
LoadsLegal = (d n seed count : ℕ) → 1 < d → 0 < n → AllLegal d n (rows_of (load_bytes d n seed count))
