-- A batch against the single calls that it is stated by: where its Paulis stand, that its refusal is that of the tests the code makes, each once, and that its
-- answer is the images' bytes. Assumes nothing.
use mathlib.Core.Path.{◌≡◌, refl, sym, ap, ap₂, ◌∙◌}
use mathlib.Core.List.{List, ◌++◌, map}
use Prim.Native.Nat.{ℕ, zero, suc, ◌+◌, ◌*◌, ◌/◌, ◌%◌, ◌≤◌, ◌<◌, suc-le-suc}
use native.Mathlib.Nat.{zero-lt-suc, mul-le-mul, le_refl, mod-add-div'}
use native.Mathlib.Omega.{arith}
use lib.ListN.{length, get_or, take}
use lib.Seq.{slice, get_or-take, get_or-drop, length-slice}
use Rattle.arith.specs.Bytes.{tab, number_at, bytes_of}
use Rattle.arith.specs.Refusals.{or_else, whole_of}
use Rattle.arith.proofs.Bytes.{tab_ext, bytes_append}
use Rattle.arith.proofs.Refusals.{or_else_none, or_else_skip, or_else_past, or_else_last, or_else_assoc, whole_good, room_good}
use Rattle.arith.proofs.Passes.{size_passes, room_passes, both_pass}
use Rattle.pauli.specs.Pauli.{Pauli}
use Rattle.pauli.specs.Bytes.{pauli_bytes, decode, numbers_of, encode}
use Rattle.pauli.specs.Range.{pauli_range_of}
use Rattle.pauli.proofs.Ranges.{pauli_path}
use Rattle.tableau.specs.Tableau.{image}
use Rattle.tableau.specs.Bytes.{column_at, decode_tableau, encode_tableau}
use Rattle.tableau.specs.Range.{tableau_range_of}
use Rattle.tableau.specs.Soundness.{soundness_of}
use Rattle.tableau.specs.Calls.{image_refusal}
use Rattle.tableau.specs.Batch.{pauli_at, paulis_of, first_refusal, answers_of, images_refusal, images_answer}
use Rattle.tableau.specs.Inner.Parts.{sized_of, images_lengths, tests_of, image_tests, images_tests, paulis_at}
use Rattle.tableau.proofs.Accepted.{Sized, sized_good, image_parts}

-- ---- the Paulis of a batch
-- Pauli j is whole
pub count_inside : (w have j : ℕ) → j < have / w → (j + 1) * w ≤ have
count_inside w have j h = omega (arith, mul-le-mul h (le_refl w), mod-add-div' have w)

pub pauli_length : (n : ℕ) (batch : List ℕ) (j : ℕ) → j < length batch / pauli_bytes n → length (pauli_at n batch j) ≡ pauli_bytes n
pauli_length n batch j h = length-slice (j * pauli_bytes n) ((j + 1) * pauli_bytes n) batch (count_inside (pauli_bytes n) (length batch) j h) ∙ omega arith

-- it decodes to the Pauli that stands at number j·(1 + 2n)
byte_at : (from to : ℕ) (b : List ℕ) (i : ℕ) → from + i < to → get_or (slice from to b) i 0 ≡ get_or b (from + i) 0
byte_at from to b i h = get_or-drop from (take to b) i 0 ∙ get_or-take to b (from + i) 0 h

number_at_lem : (n : ℕ) (batch : List ℕ) (j k : ℕ) → k < 1 + 2 * n → number_at (pauli_at n batch j) k ≡ number_at batch (j * (1 + 2 * n) + k)
unfolding number_at
number_at_lem n batch j k h = ap₂ (λ (x y : ℕ). x + 256 * y) (byte (2 * k) (2 * (j * (1 + 2 * n) + k)) (omega arith) (omega arith)) (byte (2 * k + 1) (2 * (j * (1 + 2 * n) + k) + 1) (omega arith) (omega arith))
  where
    byte : (i at : ℕ) → i < pauli_bytes n → j * pauli_bytes n + i ≡ at → get_or (pauli_at n batch j) i 0 ≡ get_or batch at 0
    byte i at l e = byte_at (j * pauli_bytes n) ((j + 1) * pauli_bytes n) batch i (omega arith) ∙ ap (λ (m : ℕ). get_or batch m 0) e

pub pauli_decoded : (n : ℕ) (batch : List ℕ) (j : ℕ) → decode n (pauli_at n batch j) ≡ column_at n j batch
pauli_decoded n batch j = pauli_path
    (number_at_lem n batch j 0 (omega arith) ∙ ap (number_at batch) (omega arith))
    (tab_ext _ _ n (λ i l. number_at_lem n batch j (0 + 1 + i) (omega arith) ∙ ap (number_at batch) (omega arith)))
    (tab_ext _ _ n (λ i l. number_at_lem n batch j (0 + 1 + n + i) (omega arith) ∙ ap (number_at batch) (omega arith)))

-- all of them are within the batch
pub paulis_inside : (n have : ℕ) → 2 * (have / pauli_bytes n * (1 + 2 * n)) ≤ have
paulis_inside n have = omega (arith, mod-add-div' have (pauli_bytes n))

-- ---- the refusal: each test is made once
-- r is 5 of the tableau, s its 7 and 8, x is 5 of a Pauli. Past r and s, 5 of the Pauli is left of a call's tests
range_left : (r s x : ℕ) → r ≡ 0 → s ≡ 0 → or_else r (or_else x s) ≡ x
range_left r s x e f = rw (e, f) (or_else_last x)

-- the first call, the calls after it, which answer `after`, and the tableau's own tests: each test once, where `ranges` is 5 of the Paulis after the first
in_order : (r s x after ranges : ℕ) → (r ≡ 0 → s ≡ 0 → after ≡ ranges) → or_else (or_else (or_else r (or_else x s)) after) (or_else r s) ≡ or_else r (or_else (or_else x 0) (or_else s (or_else x ranges)))
in_order (suc r) s x after ranges h = refl
in_order zero s (suc x) after ranges h = refl
in_order zero (suc s) zero after ranges h = refl
in_order zero zero zero after ranges h = or_else_last after ∙ h refl refl

module _ (d n : ℕ) (t : List ℕ) where
  -- the calls after one that was accepted
  later_calls : (f : ℕ → List ℕ) (g : ℕ → Pauli) (m : ℕ) → tableau_range_of d (decode_tableau n t) ≡ 0 → soundness_of d n (decode_tableau n t) ≡ 0
      → ((j : ℕ) → j < m → image_refusal d n t (f j) (pauli_bytes n) ≡ image_tests d n (decode_tableau n t) (g j)) → first_refusal d n t (tab f m) ≡ tableau_range_of d (tab g m)
  unfolding tab first_refusal tableau_range_of
  later_calls f g zero r s h = refl
  later_calls f g (suc m) r s h = ap₂ or_else (h 0 (zero-lt-suc m) ∙ range_left (tableau_range_of d (decode_tableau n t)) (soundness_of d n (decode_tableau n t)) (pauli_range_of d (g 0)) r s) (later_calls (λ j. f (suc j)) (λ j. g (suc j)) m r s (λ j l. h (suc j) (suc-le-suc l)))

  all_calls : (f : ℕ → List ℕ) (g : ℕ → Pauli) (m : ℕ) → ((j : ℕ) → j < m → image_refusal d n t (f j) (pauli_bytes n) ≡ image_tests d n (decode_tableau n t) (g j))
      → or_else (first_refusal d n t (tab f m)) (tests_of d n (decode_tableau n t)) ≡ images_tests d n (decode_tableau n t) (tab g m)
  unfolding tab first_refusal tableau_range_of
  all_calls f g zero h = ap (or_else (tableau_range_of d (decode_tableau n t))) (sym (or_else_last (soundness_of d n (decode_tableau n t))))
  all_calls f g (suc m) h =
      ap (λ (x : ℕ). or_else (or_else x (first_refusal d n t (tab (λ j. f (suc j)) m))) (tests_of d n (decode_tableau n t))) (h 0 (zero-lt-suc m))
      ∙ in_order (tableau_range_of d (decode_tableau n t)) (soundness_of d n (decode_tableau n t)) (pauli_range_of d (g 0)) _ _
      (λ r s. later_calls (λ j. f (suc j)) (λ j. g (suc j)) m r s (λ j l. h (suc j) (suc-le-suc l)))

-- a batch's refusal is that of its lengths, and past these that of its single calls and of the tableau
pub images_split : (d n : ℕ) (t batch : List ℕ) (room : ℕ)
    → images_refusal d n t batch room ≡ or_else (images_lengths d n (length t) (length batch) room) (or_else (first_refusal d n t (paulis_of n batch)) (tests_of d n (decode_tableau n t)))
images_split d n t batch room = simp or_else_assoc

-- which is that of its tests
pub images_parts : (d n : ℕ) (t batch : List ℕ) (room : ℕ)
    → images_refusal d n t batch room ≡ or_else (images_lengths d n (length t) (length batch) room) (images_tests d n (decode_tableau n t) (paulis_at n batch (length batch / pauli_bytes n)))
images_parts d n t batch room = images_split d n t batch room ∙ or_else_past (images_lengths d n (length t) (length batch) room) (λ e. all_calls d n t (pauli_at n batch) (λ j. column_at n j batch) (length batch / pauli_bytes n) (single e))
  where
    single : images_lengths d n (length t) (length batch) room ≡ 0 → (j : ℕ) → j < length batch / pauli_bytes n
        → image_refusal d n t (pauli_at n batch j) (pauli_bytes n) ≡ image_tests d n (decode_tableau n t) (column_at n j batch)
    single e j l =
        image_parts d n t (pauli_at n batch j) (pauli_bytes n)
        ∙ or_else_skip _ (both_pass (or_else_none (sized_of d n (length t)) _ e).0 (both_pass (size_passes (pauli_length n batch j l)) (room_passes (le_refl (pauli_bytes n)))))
        ∙ ap (image_tests d n (decode_tableau n t)) (pauli_decoded n batch j)

-- what holds past the lengths, and past the tests
pub lengths_good : (d n first second room : ℕ) → images_lengths d n first second room ≡ 0 → Sized d n first × ((second % pauli_bytes n ≡ 0) × (second ≤ room))
lengths_good d n first second room e =
    let a = or_else_none (sized_of d n first) _ e in
    let b = or_else_none (whole_of (pauli_bytes n) 512 second) _ a.1 in
    (sized_good a.0, ((whole_good (pauli_bytes n) 512 second b.0).0, room_good b.1))

pub tests_good : (d n : ℕ) (t ps : List Pauli) → images_tests d n t ps ≡ 0 → (tableau_range_of d t ≡ 0) × (tableau_range_of d ps ≡ 0)
tests_good d n t ps e =
    let a = or_else_none (tableau_range_of d t) _ e in
    let b = or_else_none (tableau_range_of d (take 1 ps)) _ a.1 in
    (a.0, (or_else_none (soundness_of d n t) _ b.1).1)

-- ---- the answer: the bytes of the images
answers_encoded : (d n : ℕ) (t : List ℕ) (f : ℕ → List ℕ) (g : ℕ → Pauli) (m : ℕ) → ((j : ℕ) → decode n (f j) ≡ g j) → answers_of d n t (tab f m) ≡ encode_tableau (map (image d n (decode_tableau n t)) (tab g m))
unfolding tab answers_of encode_tableau bytes_of
answers_encoded d n t f g zero h = refl
answers_encoded d n t f g (suc m) h =
    ap₂ (λ (p : Pauli) (rest : List ℕ). encode (image d n (decode_tableau n t) p) ++ rest) (h 0) (answers_encoded d n t (λ j. f (suc j)) (λ j. g (suc j)) m (λ j. h (suc j)))
    ∙ sym (bytes_append (numbers_of (image d n (decode_tableau n t) (g 0))) _)

pub images_encoded : (d n : ℕ) (t batch : List ℕ) → images_answer d n t batch ≡ encode_tableau (map (image d n (decode_tableau n t)) (paulis_at n batch (length batch / pauli_bytes n)))
images_encoded d n t batch = answers_encoded d n t (pauli_at n batch) (λ j. column_at n j batch) (length batch / pauli_bytes n) (pauli_decoded n batch)
