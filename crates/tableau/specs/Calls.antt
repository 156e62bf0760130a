-- The public calls on tableaus in bytes: each call's refusal, in the order of document 01's table over all its inputs, and its answer.
-- `room` is the output's length.
use Rattle.std.specs.Prelude.{List, ℕ, length}
use Rattle.arith.specs.Refusals.{or_else, given_of, size_of, list_size_of, room_of, row_of}
use Rattle.pauli.specs.Bytes.{pauli_bytes, decode, encode}
use Rattle.pauli.specs.Range.{pauli_range_of}
use Rattle.gates.specs.Written.{list_rows, rows_of, all_legal_rows}
use Rattle.tableau.specs.Tableau.{tableau_of, image, compose}
use Rattle.tableau.specs.Inverse.{inverse}
use Rattle.tableau.specs.Bytes.{tableau_bytes, decode_tableau, encode_tableau}
use Rattle.tableau.specs.Range.{tableau_range_of}
use Rattle.tableau.specs.Soundness.{soundness_of, both_soundness_of}

-- ---- the tableau of a list: 1, 2, 3, 4, 6
abbrev pub tableau_refusal : ℕ → ℕ → List ℕ → ℕ → ℕ
tableau_refusal d n list room =
    or_else (given_of d n)
    (or_else (list_size_of (length list))
    (or_else (room_of (tableau_bytes n) room)
    (row_of (all_legal_rows d n (list_rows list)))))

abbrev pub tableau_answer : ℕ → ℕ → List ℕ → List ℕ
tableau_answer d n list = encode_tableau (tableau_of d n (rows_of list))

-- ---- the image of p under t: 1, 2, 3 of t and of p, 4, 5 of t and of p, 7, 8
abbrev pub image_refusal : ℕ → ℕ → List ℕ → List ℕ → ℕ → ℕ
image_refusal d n t p room =
    or_else (given_of d n)
    (or_else (size_of (tableau_bytes n) (length t))
    (or_else (size_of (pauli_bytes n) (length p))
    (or_else (room_of (pauli_bytes n) room)
    (or_else (tableau_range_of d (decode_tableau n t))
    (or_else (pauli_range_of d (decode n p))
    (soundness_of d n (decode_tableau n t)))))))

abbrev pub image_answer : ℕ → ℕ → List ℕ → List ℕ → List ℕ
image_answer d n t p = encode (image d n (decode_tableau n t) (decode n p))

-- ---- t, then u: 1, 2, 3 of both, 4, 5 of both, 7 of both, 8 of both
abbrev pub compose_refusal : ℕ → ℕ → List ℕ → List ℕ → ℕ → ℕ
compose_refusal d n t u room =
    or_else (given_of d n)
    (or_else (size_of (tableau_bytes n) (length t))
    (or_else (size_of (tableau_bytes n) (length u))
    (or_else (room_of (tableau_bytes n) room)
    (or_else (tableau_range_of d (decode_tableau n t))
    (or_else (tableau_range_of d (decode_tableau n u))
    (both_soundness_of d n (decode_tableau n t) (decode_tableau n u)))))))

abbrev pub compose_answer : ℕ → ℕ → List ℕ → List ℕ → List ℕ
compose_answer d n t u = encode_tableau (compose d n (decode_tableau n t) (decode_tableau n u))

-- ---- the tableau that undoes t: 1, 2, 3, 4, 5, 7, 8
abbrev pub inverse_refusal : ℕ → ℕ → List ℕ → ℕ → ℕ
inverse_refusal d n t room =
    or_else (given_of d n)
    (or_else (size_of (tableau_bytes n) (length t))
    (or_else (room_of (tableau_bytes n) room)
    (or_else (tableau_range_of d (decode_tableau n t))
    (soundness_of d n (decode_tableau n t)))))

abbrev pub inverse_answer : ℕ → ℕ → List ℕ → List ℕ
inverse_answer d n t = encode_tableau (inverse d n (decode_tableau n t))
