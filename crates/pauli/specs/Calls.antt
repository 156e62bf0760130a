-- The public calls on Paulis in bytes: each call's refusal, in the order of document 01's table, and its answer. `room` is the output's length.
use Rattle.std.specs.Prelude.{◌≡◌, Result, Ok, Err, List, ℕ, length}
use Rattle.arith.specs.Refusals.{refusal_number, or_else, given_of, size_of, room_of, unless}
use Rattle.pauli.specs.Pauli.{product, power, comm}
use Rattle.pauli.specs.Support.{support_of, touched_of}
use Rattle.pauli.specs.Bytes.{pauli_bytes, decode, encode}
use Rattle.pauli.specs.Range.{pauli_range_of, pair_range_of}
use Rattle.arith.specs.declared.checks.Refusal.{Refusal}
use Rattle.pauli.specs.declared.calls.QuditSupport.{QuditSupport}
use Rattle.pauli.specs.declared.calls.SupportAnswer.{SupportAnswer}

-- ---- product of p and q, in this order: 1, 2, 3 of p and of q, 4, 5 of p and of q
abbrev pub product_refusal : ℕ → ℕ → List ℕ → List ℕ → ℕ → ℕ
product_refusal d n p q room =
    or_else (given_of d n)
    (or_else (size_of (pauli_bytes n) (length p))
    (or_else (size_of (pauli_bytes n) (length q))
    (or_else (room_of (pauli_bytes n) room)
    (pair_range_of d (decode n p) (decode n q)))))

abbrev pub product_bytes : ℕ → ℕ → List ℕ → List ℕ → List ℕ
product_bytes d n p q = encode (product d (decode n p) (decode n q))

-- ---- power k of p: 1, 2, 3, 4, 5; no k is refused
abbrev pub power_refusal : ℕ → ℕ → List ℕ → ℕ → ℕ
power_refusal d n p room =
    or_else (given_of d n)
    (or_else (size_of (pauli_bytes n) (length p))
    (or_else (room_of (pauli_bytes n) room)
    (pauli_range_of d (decode n p))))

abbrev pub power_bytes : ℕ → ℕ → List ℕ → ℕ → List ℕ
power_bytes d n p k = encode (power d n (decode n p) k)

-- ---- commutation number of p and q: 1, 2, 3 of p and of q, 5 of p and of q
abbrev pub commutation_refusal : ℕ → ℕ → List ℕ → List ℕ → ℕ
commutation_refusal d n p q =
    or_else (given_of d n)
    (or_else (size_of (pauli_bytes n) (length p))
    (or_else (size_of (pauli_bytes n) (length q))
    (pair_range_of d (decode n p) (decode n q))))

abbrev pub commutation_number : ℕ → ℕ → List ℕ → List ℕ → ℕ
commutation_number d n p q = comm d (decode n p) (decode n q)

-- ---- support of p (document 02, P7): 1, 2, 3, 5
abbrev pub support_refusal : ℕ → ℕ → List ℕ → ℕ
support_refusal d n p =
    or_else (given_of d n)
    (or_else (size_of (pauli_bytes n) (length p))
    (pauli_range_of d (decode n p)))

-- what C is handed of it: the refusal's number, or 0, and the two results, or 0
abbrev pub support_answer_of : Result QuditSupport Refusal → SupportAnswer
support_answer_of (Ok s) = record { number = 0; word = s.word; touched = s.touched }
support_answer_of (Err k) = record { number = refusal_number k; word = 0; touched = 0 }

-- the refusal's number, the support word and the number of qudits touched, both 0 of a refused call
pub record Supported (d n : ℕ) (p : List ℕ) (r : SupportAnswer) : Type 0 where
  pub number : r.number ≡ support_refusal d n p
  pub word : r.word ≡ unless (support_refusal d n p) (support_of (decode n p))
  pub touched : r.touched ≡ unless (support_refusal d n p) (touched_of (decode n p))
