-- A batch of Paulis (document 02, P1): up to 512 Paulis end to end, and their images end to end. The call answers as single calls of the image made in order
-- do, so it is stated by their refusal and their answer. `room` is the output's length.
use Rattle.std.specs.Prelude.{List, [], ◌∷◌, ◌++◌, ℕ, ◌+◌, ◌*◌, ◌/◌, length}
use Rattle.std.proofs.Math.Seq.{slice}
use Rattle.arith.specs.Bytes.{tab}
use Rattle.arith.specs.Refusals.{or_else, given_of, size_of, whole_of, room_of}
use Rattle.pauli.specs.Bytes.{pauli_bytes}
use Rattle.tableau.specs.Bytes.{tableau_bytes, decode_tableau}
use Rattle.tableau.specs.Range.{tableau_range_of}
use Rattle.tableau.specs.Soundness.{soundness_of}
use Rattle.tableau.specs.Calls.{image_refusal, image_answer}

-- ---- the Paulis of a batch
-- the bytes of Pauli j, counted from 0
abbrev pub pauli_at : ℕ → List ℕ → ℕ → List ℕ
pauli_at n batch j = slice (j * pauli_bytes n) ((j + 1) * pauli_bytes n) batch

-- all of them, in order
abbrev pub paulis_of : ℕ → List ℕ → List (List ℕ)
paulis_of n batch = tab (pauli_at n batch) (length batch / pauli_bytes n)

-- ---- single calls made in order, each with room for one image
-- the first refusal
unfoldable pub first_refusal : ℕ → ℕ → List ℕ → List (List ℕ) → ℕ
first_refusal d n t [] = 0
first_refusal d n t (p ∷ ps) = or_else (image_refusal d n t p (pauli_bytes n)) (first_refusal d n t ps)

-- the answers, end to end
unfoldable pub answers_of : ℕ → ℕ → List ℕ → List (List ℕ) → List ℕ
answers_of d n t [] = []
answers_of d n t (p ∷ ps) = image_answer d n t p ++ answers_of d n t ps

-- ---- the images of a batch under t: 1, 2, 3 of t and of the batch, 4 of all images; then the first refusal of the single calls;
-- then 5, 7 and 8 of t. Each accepted single call has passed these three, so they decide for the empty batch alone.
abbrev pub images_refusal : ℕ → ℕ → List ℕ → List ℕ → ℕ → ℕ
images_refusal d n t batch room =
    or_else (given_of d n)
    (or_else (size_of (tableau_bytes n) (length t))
    (or_else (whole_of (pauli_bytes n) 512 (length batch))
    (or_else (room_of (length batch) room)
    (or_else (first_refusal d n t (paulis_of n batch))
    (or_else (tableau_range_of d (decode_tableau n t))
    (soundness_of d n (decode_tableau n t)))))))

abbrev pub images_answer : ℕ → ℕ → List ℕ → List ℕ → List ℕ
images_answer d n t batch = answers_of d n t (paulis_of n batch)
