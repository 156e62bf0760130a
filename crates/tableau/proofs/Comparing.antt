-- Comparing lists by their tableaus: the theorems of specs/Comparing. Assumes nothing.
use mathlib.Core.Path.{◌≡◌, refl, sym, ap, ◌∙◌}
use mathlib.Core.List.{List, ◌++◌, map, map-append}
use mathlib.Core.Logic.{◌↔◌}
use Prim.Native.Nat.{ℕ, zero, suc, ◌%◌, ◌<◌}
use native.Mathlib.Omega.{arith}
use lib.ListN.{length, take, drop}
use lib.Seq.{take_at}
use Rattle.arith.specs.Answers.{Written}
use Rattle.arith.specs.Bytes.{front}
use Rattle.arith.specs.Refusals.{kept, or_else, size_of, Dimension}
use Rattle.arith.proofs.Passes.{size_passes, both_pass}
use Rattle.arith.proofs.Refusals.{or_else_none, size_good}
use Rattle.pauli.specs.Pauli.{Pauli, Below}
use Rattle.pauli.proofs.Group.{comm_below}
use Rattle.gates.specs.Row.{Row, AllLegal, run}
use Rattle.gates.specs.Common.{NoneInCommon}
use Rattle.gates.specs.Written.{meant, list_rows, rows_of}
use Rattle.gates.proofs.Common.{common_test, run_either}
use Rattle.gates.proofs.Kept.{run_comm}
use Rattle.gates.proofs.Written.{all_legal_meant, rows_append}
use Rattle.tableau.specs.Tableau.{units, tableau_of, image, WellFormed, compose}
use Rattle.tableau.specs.Bytes.{tableau_bytes, decode_tableau, encode_tableau}
use Rattle.tableau.specs.Calls.{tableau_answer, compose_answer, inverse_answer}
use Rattle.tableau.specs.Comparing.{EqualTableaus, CommutationKept, EitherOrder, LegalBytes, EqualBytes, EqualOutputs, EitherBytes, ComposedBytes, Taken, Stored, ImagesAlike, EqualStored}
use Rattle.tableau.specs.Inner.Parts.{tests_of}
use Rattle.tableau.proofs.Accepted.{table_sound, tableau_accepted}
use Rattle.tableau.proofs.Answers.{decode_answer, tableau_taken, composed_taken, inverse_taken}
use Rattle.tableau.proofs.Bytes.{ranges_pass, encode_decode, encode_below}
use Rattle.tableau.proofs.Columns.{units_range, map_agree}
use Rattle.tableau.proofs.Compose.{tableau_image, compose_formed}
use Rattle.tableau.proofs.Inverse.{inverse_formed}
use Rattle.tableau.proofs.Run.{run_image, tableau_formed, tableau_append}
use Rattle.tableau.proofs.Tests.{soundness_says}

-- ---- 1. equal tableaus, and every Pauli carried alike
pub equal_tableaus : EqualTableaus
equal_tableaus d n xs ys one a b = (
  λ e p r. run_image one a p r ∙ ap (λ (t : List Pauli). image d n t p) e ∙ sym (run_image one b p r),
  λ alike. map_agree alike (units_range d n one),
)

-- ---- 2. commutation numbers
-- for d = 0 no Pauli is in range, and for d = 1 every commutation number is 0
pub commutation_kept : CommutationKept
commutation_kept zero n rows legal p q a b = absurd (omega (arith, a.phase_below))
commutation_kept (suc zero) n rows legal p q a b = omega (arith, comm_below 1 (run 1 rows p) (run 1 rows q) (omega arith), comm_below 1 p q (omega arith))
commutation_kept (suc (suc d)) n rows legal p q a b = run_comm (omega arith) legal p q a b

-- ---- 3. no qudit in common
pub either_order : EitherOrder
either_order d n xs ys apart = λ k. map (λ p. run_either d xs ys apart p k) (units n)

-- and their tableaus may be composed in either order
pub either_composed : {d n : ℕ} {xs ys : List Row} → 1 < d → AllLegal d n xs → AllLegal d n ys → NoneInCommon xs ys
    → compose d n (tableau_of d n xs) (tableau_of d n ys) ≡ compose d n (tableau_of d n ys) (tableau_of d n xs)
either_composed {d} {n} {xs} {ys} one a b apart = sym (tableau_append one xs a b) ∙ either_order d n xs ys apart ∙ tableau_append one ys b a

-- ---- in bytes
pub equal_bytes : EqualBytes
equal_bytes d n xs ys one x y =
    let a = all_legal_meant d n (list_rows xs) x in
    let b = all_legal_meant d n (list_rows ys) y in
    let theorem = equal_tableaus d n (rows_of xs) (rows_of ys) one a b in (
      λ e. theorem.0 (sym (decode_answer one (tableau_formed one a)) ∙ ap (decode_tableau n) e ∙ decode_answer one (tableau_formed one b)),
      λ alike. ap encode_tableau (theorem.1 alike),
    )

-- the answer of a call that isn't refused stands at the front of its output
front_written : {answer old new : List ℕ} (refusal : ℕ) → Written refusal answer old new 0 → take (length answer) new ≡ answer
front_written {answer} {old} {new} refusal w = ap (take (length answer)) (w.out ∙ ap (λ (r : ℕ). kept r old (front answer old)) (sym w.number)) ∙ take_at answer (drop (length answer) old) (length answer) refl

pub equal_outputs : EqualOutputs
equal_outputs d n xs out_x new_x ys out_y new_y w z =
    let a = tableau_accepted xs (length out_x) (sym w.number) in
    let b = tableau_accepted ys (length out_y) (sym z.number) in
    let one = a.given.dimension.d_low in
    let x : take (tableau_bytes n) new_x ≡ tableau_answer d n xs = ap (λ (k : ℕ). take k new_x) (sym (tableau_taken one xs a.legal).size) ∙ front_written _ w in
    let y : take (tableau_bytes n) new_y ≡ tableau_answer d n ys = ap (λ (k : ℕ). take k new_y) (sym (tableau_taken one ys b.legal).size) ∙ front_written _ z in
    let theorem = equal_bytes d n xs ys one a.legal b.legal in (
      λ e. theorem.0 (sym x ∙ e ∙ y),
      λ alike. x ∙ theorem.1 alike ∙ sym y,
    )

-- the rows of the one list behind the other
behind : (xs ys : List ℕ) → length xs % 8 ≡ 0 → rows_of (xs ++ ys) ≡ rows_of xs ++ rows_of ys
behind xs ys e = ap (map meant) (rows_append xs ys e) ∙ map-append meant (list_rows xs) (list_rows ys)

pub either_bytes : EitherBytes
either_bytes d n xs ys x y apart = ap encode_tableau
    (ap (tableau_of d n) (behind xs ys x)
    ∙ either_order d n (rows_of xs) (rows_of ys) ((common_test (rows_of xs) (rows_of ys)).0 apart)
    ∙ ap (tableau_of d n) (sym (behind ys xs y)))

pub composed_bytes : ComposedBytes
composed_bytes d n xs ys one x a b =
    let l = all_legal_meant d n (list_rows xs) a in
    let m = all_legal_meant d n (list_rows ys) b in
    ap encode_tableau
    ((λ k. compose d n (decode_answer one (tableau_formed one l) k) (decode_answer one (tableau_formed one m) k))
    ∙ sym (tableau_append one (rows_of xs) l m)
    ∙ ap (tableau_of d n) (sym (behind xs ys x)))

pub equal_stored : EqualStored
equal_stored d n t u one a b = (
  λ e p r. ap (λ (z : List ℕ). image d n (decode_tableau n z) p) e,
  λ alike. sym (encode_decode n t a.taken.size a.bytes) ∙ ap encode_tableau (tableaus alike) ∙ encode_decode n u b.taken.size b.bytes,
)
  where
    tableaus : ImagesAlike d n t u → decode_tableau n t ≡ decode_tableau n u
    tableaus alike = sym (tableau_image one a.taken.formed a.taken.sound) ∙ map_agree alike (units_range d n one) ∙ tableau_image one b.taken.formed b.taken.sound

-- ---- stored tableaus are those that the calls take
pub taken_exactly : {d n : ℕ} (b : List ℕ) → Taken d n b ↔ (or_else (size_of (tableau_bytes n) (length b)) (tests_of d n (decode_tableau n b)) ≡ 0)
taken_exactly {d} {n} b = (
  λ s. both_pass (size_passes s.size) (both_pass (ranges_pass s.formed.ranges) (soundness_says.accepted.1 (s.sound.pairing, s.sound.parities))),
  λ e.
      let z = or_else_none (size_of (tableau_bytes n) (length b)) _ e in
      let t = table_sound b refl z.1 in
      record { size = size_good z.0; formed = t.0; sound = t.1 },
)

-- what they hand back is stored
module _ {d n : ℕ} (h : Dimension d) where
  encoded_bytes : {t : List Pauli} → WellFormed d n t → Below 256 (encode_tableau t)
  encoded_bytes g = encode_below (omega (arith, h.d_high)) g.ranges

  pub tableau_stored : (list : List ℕ) → LegalBytes d n list → Stored d n (tableau_answer d n list)
  tableau_stored list legal = record { bytes = encoded_bytes (tableau_formed h.d_low (all_legal_meant d n (list_rows list) legal)); taken = tableau_taken h.d_low list legal }

  pub compose_stored : {t u : List ℕ} → Stored d n t → Stored d n u → Stored d n (compose_answer d n t u)
  compose_stored a b = record { bytes = encoded_bytes (compose_formed (omega (arith, h.d_low)) a.taken.formed b.taken.formed); taken = composed_taken h.d_low a.taken b.taken }

  pub inverse_stored : {t : List ℕ} → Stored d n t → Stored d n (inverse_answer d n t)
  inverse_stored a = record { bytes = encoded_bytes (inverse_formed h.d_low a.taken.formed a.taken.sound); taken = inverse_taken h.d_low a.taken }
