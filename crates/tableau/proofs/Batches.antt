-- What a user may conclude of a batch: a batch with a Pauli in it is decided by its single calls, the empty one by the tableau; of an accepted one, how long the
-- answer is and where each image stands. And batches by computing. Assumes nothing.
use mathlib.Core.Path.{◌≡◌, refl, sym, ap, ap₂, ◌∙◌}
use mathlib.Core.List.{List, [], ◌∷◌, ◌++◌, map}
use Prim.Native.Nat.{ℕ, zero, suc, ◌+◌, ◌*◌, ◌/◌, ◌%◌, ◌<◌, suc-le-suc}
use native.Mathlib.Nat.{zero-lt-suc, not-suc-le-zero, le_of_suc-le-suc, zero-mod, zero-div, mod-add-div'}
use native.Mathlib.Omega.{arith}
use lib.ListN.{length, take, drop, length-map}
use lib.Seq.{slice, take_at, take-append-add, drop-append-add}
use Rattle.arith.specs.Bytes.{tab, number_at, bytes_of}
use Rattle.arith.specs.Residues.{neg}
use Rattle.arith.specs.Refusals.{or_else, dimension_of, width_of, given_of, size_of, whole_of, room_of, range_of, pairing_of, parity_of}
use Rattle.arith.proofs.Bytes.{tab_none, bytes_length}
use Rattle.arith.proofs.Refusals.{Given, or_else_none, or_else_skip, or_else_past, or_else_last}
use Rattle.arith.proofs.Passes.{room_passes, whole_passes, both_pass}
use Rattle.pauli.specs.Pauli.{Pauli, InRange}
use Rattle.pauli.specs.Bytes.{pauli_bytes, decode, numbers_of}
use Rattle.pauli.specs.Range.{bounds_of, pauli_range_of}
use Rattle.tableau.specs.Tableau.{image, AllInRange}
use Rattle.tableau.specs.Bytes.{decode_tableau, tableau_numbers, encode_tableau}
use Rattle.tableau.specs.Range.{tableau_range_of}
use Rattle.tableau.specs.Calls.{image_refusal, image_answer}
use Rattle.tableau.specs.Batch.{pauli_at, paulis_of, first_refusal, answers_of, images_refusal, images_answer}
use Rattle.tableau.specs.Inner.Parts.{sized_of, image_lengths, images_lengths, tests_of, paulis_at}
use Rattle.tableau.proofs.Accepted.{image_parts}
use Rattle.tableau.proofs.Bytes.{ranges_good, decode_formed, all_length, numbers_length}
use Rattle.tableau.proofs.Columns.{column_range, map_range}
use Rattle.tableau.proofs.Image.{image_range}
use Rattle.tableau.proofs.Loops.{batch_at, batch_length}
use Rattle.tableau.proofs.Singles.{pauli_decoded, images_split, images_parts, lengths_good, tests_good, images_encoded}

-- ---- what decides
-- a single call that is accepted has passed 5, 7 and 8 of the tableau
accepted_tests : (d n : ℕ) (t p : List ℕ) (room : ℕ) → image_refusal d n t p room ≡ 0 → tests_of d n (decode_tableau n t) ≡ 0
accepted_tests d n t p room e =
    let a = or_else_none (image_lengths d n (length t) (length p) room) _ (sym (image_parts d n t p room) ∙ e) in
    let b = or_else_none (tableau_range_of d (decode_tableau n t)) _ a.1 in
    let c = or_else_none (pauli_range_of d (decode n p)) _ b.1 in
    both_pass b.0 c.1

some_call : (d n : ℕ) (t : List ℕ) (f : ℕ → List ℕ) (m : ℕ) → 0 < m → first_refusal d n t (tab f m) ≡ 0 → tests_of d n (decode_tableau n t) ≡ 0
unfolding tab first_refusal
some_call d n t f zero h e = absurd (not-suc-le-zero h)
some_call d n t f (suc m) h e = accepted_tests d n t (f 0) (pauli_bytes n) (or_else_none (image_refusal d n t (f 0) (pauli_bytes n)) _ e).0

-- past the lengths a batch with a Pauli in it is decided by its single calls
pub calls_decide : (d n : ℕ) (t batch : List ℕ) (room : ℕ) → images_lengths d n (length t) (length batch) room ≡ 0 → 0 < length batch / pauli_bytes n
    → images_refusal d n t batch room ≡ first_refusal d n t (paulis_of n batch)
calls_decide d n t batch room e h =
    images_split d n t batch room ∙ or_else_skip _ e
    ∙ or_else_past (first_refusal d n t (paulis_of n batch)) (some_call d n t (pauli_at n batch) (length batch / pauli_bytes n) h)
    ∙ or_else_last (first_refusal d n t (paulis_of n batch))

-- the empty batch by the tableau
no_call : (d n : ℕ) (t : List ℕ) → first_refusal d n t [] ≡ 0
unfolding first_refusal
no_call d n t = refl

pub empty_decides : (d n : ℕ) (t : List ℕ) (room : ℕ) → images_refusal d n t [] room ≡ or_else (sized_of d n (length t)) (tests_of d n (decode_tableau n t))
empty_decides d n t room = images_split d n t [] room ∙ ap₂ or_else lengths (ap (λ (x : ℕ). or_else x (tests_of d n (decode_tableau n t))) none)
  where
    lengths : images_lengths d n (length t) 0 room ≡ sized_of d n (length t)
    lengths =
        ap (or_else (sized_of d n (length t))) (both_pass (whole_passes (pauli_bytes n) 512 0 (zero-mod (pauli_bytes n)) (omega (arith, zero-div (pauli_bytes n)))) (room_passes {want = 0} {have = room} (omega arith)))
        ∙ or_else_last (sized_of d n (length t))

    none : first_refusal d n t (paulis_of n []) ≡ 0
    none = ap (λ (m : ℕ). first_refusal d n t (tab (pauli_at n []) m)) (zero-div (pauli_bytes n)) ∙ ap (first_refusal d n t) (tab_none (pauli_at n [])) ∙ no_call d n t

-- ---- an accepted batch
pub record ImagesAccepted (d n : ℕ) (t batch : List ℕ) : Type 0 where
  pub given : Given d n
  pub whole : length batch % pauli_bytes n ≡ 0
  pub tableau : AllInRange d n (decode_tableau n t)
  pub paulis : AllInRange d n (paulis_at n batch (length batch / pauli_bytes n))

pub images_accepted : (d n : ℕ) (t batch : List ℕ) (room : ℕ) → images_refusal d n t batch room ≡ 0 → ImagesAccepted d n t batch
images_accepted d n t batch room e =
    let a = or_else_none (images_lengths d n (length t) (length batch) room) _ (sym (images_parts d n t batch room) ∙ e) in
    let l = lengths_good d n (length t) (length batch) room a.0 in
    let r = tests_good d n (decode_tableau n t) (paulis_at n batch (length batch / pauli_bytes n)) a.1 in
    record { given = l.0.given; whole = l.1.0; tableau = (decode_formed t r.0).ranges; paulis = ranges_good (λ j. j * (1 + 2 * n)) batch _ r.1 }

-- its answer is as long as the batch
pub images_long : (d n : ℕ) (t batch : List ℕ) (room : ℕ) → images_refusal d n t batch room ≡ 0 → length (images_answer d n t batch) ≡ length batch
unfolding encode_tableau
images_long d n t batch room e =
    ap length (images_encoded d n t batch)
    ∙ bytes_length (tableau_numbers images)
    ∙ ap (λ (k : ℕ). 2 * k) (all_length (map_range (λ p r. image_range pos s.tableau r) s.paulis) ∙ ap (λ (k : ℕ). k * (1 + 2 * n)) (length-map (paulis_at n batch m) (image d n (decode_tableau n t)) ∙ batch_length n batch m))
    ∙ omega (arith, mod-add-div' (length batch) (pauli_bytes n), s.whole)
  where
    s : ImagesAccepted d n t batch
    s = images_accepted d n t batch room e

    pos : 0 < d
    pos = omega (arith, s.given.dimension.d_low)

    m : ℕ
    m = length batch / pauli_bytes n

    images : List Pauli
    images = map (image d n (decode_tableau n t)) (paulis_at n batch m)

-- and image j stands where Pauli j stood
block : (w : ℕ) (d n : ℕ) (t : List ℕ) (f : ℕ → List ℕ) (m j : ℕ) → ((i : ℕ) → i < m → length (image_answer d n t (f i)) ≡ w) → j < m → slice (j * w) ((j + 1) * w) (answers_of d n t (tab f m)) ≡ image_answer d n t (f j)
unfolding tab answers_of
block w d n t f zero j h l = absurd (not-suc-le-zero l)
block w d n t f (suc m) zero h l =
    let e : (0 + 1) * w ≡ w = omega arith in
    let z : 0 * w ≡ 0 = omega arith in
    rw (z, e) (take_at (image_answer d n t (f 0)) (answers_of d n t (tab (λ i. f (suc i)) m)) w (h 0 (zero-lt-suc m)))
block w d n t f (suc m) (suc j) h l =
    let a = h 0 (zero-lt-suc m) in
    let x : suc j * w ≡ length (image_answer d n t (f 0)) + j * w = omega (arith, a) in
    let y : (suc j + 1) * w ≡ length (image_answer d n t (f 0)) + (j + 1) * w = omega (arith, a) in
    ap₂ (λ (from to : ℕ). slice from to (image_answer d n t (f 0) ++ answers_of d n t (tab (λ i. f (suc i)) m))) x y
    ∙ ap (drop (length (image_answer d n t (f 0)) + j * w)) (take-append-add (image_answer d n t (f 0)) (answers_of d n t (tab (λ i. f (suc i)) m)) ((j + 1) * w))
    ∙ drop-append-add (image_answer d n t (f 0)) (take ((j + 1) * w) (answers_of d n t (tab (λ i. f (suc i)) m))) (j * w)
    ∙ block w d n t (λ i. f (suc i)) m j (λ i k. h (suc i) (suc-le-suc k)) (le_of_suc-le-suc l)

pub image_in_place : (d n : ℕ) (t batch : List ℕ) (room j : ℕ) → images_refusal d n t batch room ≡ 0 → j < length batch / pauli_bytes n
    → pauli_at n (images_answer d n t batch) j ≡ image_answer d n t (pauli_at n batch j)
image_in_place d n t batch room j e l = block (pauli_bytes n) d n t (pauli_at n batch) (length batch / pauli_bytes n) j long l
  where
    s : ImagesAccepted d n t batch
    s = images_accepted d n t batch room e

    pos : 0 < d
    pos = omega (arith, s.given.dimension.d_low)

    ranged : (i : ℕ) → i < length batch / pauli_bytes n → InRange d n (decode n (pauli_at n batch i))
    ranged i k = rw (pauli_decoded n batch i) (rw (batch_at n batch (length batch / pauli_bytes n) i k) at (column_range i pos s.paulis))

    long : (i : ℕ) → i < length batch / pauli_bytes n → length (image_answer d n t (pauli_at n batch i)) ≡ pauli_bytes n
    long i k = bytes_length (numbers_of (image d n (decode_tableau n t) (decode n (pauli_at n batch i)))) ∙ ap (λ (x : ℕ). 2 * x) (numbers_length (image_range pos s.tableau (ranged i k)))

-- ---- by computing: d = 3, n = 1
-- the tableau of F, and one whose columns commute
abbrev quarter : List ℕ
quarter = bytes_of (0 ∷ 0 ∷ 1 ∷ 0 ∷ 2 ∷ 0 ∷ [])

abbrev unsound : List ℕ
unsound = bytes_of (0 ∷ 0 ∷ 1 ∷ 0 ∷ 0 ∷ 1 ∷ [])

-- two Paulis in range; the first, then the second, out of range
abbrev two : List ℕ
two = bytes_of (1 ∷ 1 ∷ 1 ∷ 0 ∷ 2 ∷ 0 ∷ [])

abbrev first_out : List ℕ
first_out = bytes_of (1 ∷ 3 ∷ 1 ∷ 0 ∷ 2 ∷ 0 ∷ [])

abbrev second_out : List ℕ
second_out = bytes_of (1 ∷ 1 ∷ 1 ∷ 6 ∷ 2 ∷ 0 ∷ [])

images_of_two : (images_refusal 3 1 quarter two 12 ≡ 0) × (images_answer 3 1 quarter two ≡ bytes_of (5 ∷ 2 ∷ 1 ∷ 0 ∷ 0 ∷ 2 ∷ []))
unfolding neg tab number_at bytes_of decode_tableau dimension_of width_of given_of size_of whole_of room_of range_of bounds_of pauli_range_of tableau_range_of pairing_of parity_of first_refusal answers_of
images_of_two = (refl, refl)

-- a sound tableau: 5 whichever Pauli is out of range; an unsound one: 5 for the first alone
refused_by_place : (images_refusal 3 1 quarter first_out 12 ≡ 5) × (images_refusal 3 1 quarter second_out 12 ≡ 5) × (images_refusal 3 1 unsound first_out 12 ≡ 5) × (images_refusal 3 1 unsound second_out 12 ≡ 7)
unfolding neg tab number_at bytes_of decode_tableau dimension_of width_of given_of size_of whole_of room_of range_of bounds_of pauli_range_of tableau_range_of pairing_of parity_of first_refusal
refused_by_place = (refl, refl, refl, refl)

-- the empty batch; a broken last Pauli; room for all but one byte; 512 Paulis and 513
of_lengths : (images_refusal 3 1 quarter [] 0 ≡ 0) × (images_refusal 3 1 unsound [] 0 ≡ 7) × (images_refusal 3 1 quarter (0 ∷ two) 13 ≡ 3) × (images_refusal 3 1 unsound first_out 11 ≡ 4) × (whole_of (pauli_bytes 1) 512 3072 ≡ 0) × (whole_of (pauli_bytes 1) 512 3078 ≡ 3)
unfolding neg tab number_at bytes_of decode_tableau dimension_of width_of given_of size_of whole_of room_of range_of bounds_of pauli_range_of tableau_range_of pairing_of parity_of first_refusal
of_lengths = (refl, refl, refl, refl, refl, refl)
