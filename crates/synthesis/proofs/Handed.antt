-- The promise of the synthesis call: what holds once nothing is refused, what the output's bytes are once the list is written and reversed, and demand 3 of them. Assumes nothing.
use mathlib.Core.Path.{◌≡◌, refl, sym, ◌∙◌, ap, subst}
use mathlib.Core.List.{List, ◌++◌, map, map-map, reverse, reverse-reverse}
use mathlib.Core.Logic.{◌≢◌, ◌↔◌, ◌⊎◌}
use Rattle.std.specs.Prelude.{Result}
use Prim.Native.Nat.{ℕ, ◌+◌, ◌*◌, ◌≤◌, ◌<◌}
use native.Mathlib.Nat.{mul-le-mul}
use native.Mathlib.Omega.{arith}
use lib.ListN.{length, take, drop, length-map}
use lib.Seq.{take_at, drop_at}
use Rattle.arith.specs.Bytes.{front}
use Rattle.arith.proofs.Bytes.{write_front}
use Rattle.arith.specs.Refusals.{or_else, room_of}
use Rattle.arith.proofs.Refusals.{Stops, stops_some, or_else_none, or_else_skip, or_else_assoc}
use Rattle.arith.specs.Refusals.{number_of}
use Rattle.arith.specs.declared.checks.Refusal.{Refusal}
use Rattle.arith.specs.declared.checks.Answer.{Answer}
use Rattle.pauli.specs.Pauli.{Pauli}
use Rattle.gates.specs.Row.{Row, run, undo}
use Rattle.gates.specs.Written.{WrittenRow, written, meant, encode_rows, list_rows, rows_of, all_legal_rows}
use Rattle.gates.proofs.Written.{list_encoded, rows_meant, all_legal_written, rows_bytes}
use Rattle.tableau.specs.Tableau.{WellFormed, Sound, Pairing, Even}
use Rattle.tableau.specs.Bytes.{decode_tableau}
use Rattle.tableau.specs.Inner.Parts.{sized_of, tests_of}
use Rattle.tableau.specs.Soundness.{soundness_of}
use Rattle.tableau.proofs.Tests.{soundness_says, sound_good}
use Rattle.synthesis.specs.Inner.Reduce.{State, start, reduce, synthesised}
use Rattle.synthesis.specs.Inner.Progress.{undo_rows, Holds}
use Rattle.synthesis.specs.Demand3.{Realises, Realisable, malformed_of, synthesis_refusal, handed, HandsBack, WellGiven, Promise}
use Rattle.synthesis.proofs.Premises.{malformed_exactly, formed_given}
use Rattle.synthesis.proofs.Progress.{undo_length}
use Rattle.synthesis.proofs.Demand3.{sound_realised, accepted_realisable, refused_unrealisable}

-- ---- numbers
pub square_small : (n : ℕ) → n ≤ 16 → n * n ≤ 256
square_small n h = mul-le-mul h h

-- ---- what holds once nothing is refused
module _ (d n : ℕ) (bytes : List ℕ) (room : ℕ) where
  -- what the lengths decide, then what the numbers decide
  pub refusal_parts : synthesis_refusal d n bytes room ≡ or_else (or_else (sized_of d n (length bytes)) (room_of (40 * (n * n) + 48 * n) room)) (tests_of d n (decode_tableau n bytes))
  refusal_parts = simp or_else_assoc

  pub well_formed : malformed_of d n bytes room ≡ 0 → (1 < d) × WellFormed d n (decode_tableau n bytes)
  well_formed e = let w = (malformed_exactly d n bytes room).0 e in (w.dimension.d_low, formed_given w)

  pub accepted_given : synthesis_refusal d n bytes room ≡ 0 → WellGiven d n bytes room × Sound d n (decode_tableau n bytes)
  accepted_given e = let z = or_else_none (malformed_of d n bytes room) _ e in ((malformed_exactly d n bytes room).0 z.0, sound_good z.1)

-- ---- the output's bytes: the undo rows in their order, reversed
undo_reversed : (d : ℕ) (rows : List Row) → reverse (undo_rows d rows) ≡ map written (map (undo d) rows)
unfolding undo_rows
undo_reversed d rows = reverse-reverse (map (λ r. written (undo d r)) rows) ∙ sym (map-map written (undo d) rows)

list_written : {d count : ℕ} {t : List Pauli} {old out new : List ℕ} {s : State} → Holds d 0 old t out count s → 8 * count ≤ length old
    → ((ws : List WrittenRow) (rest : List ℕ) → length ws ≡ count → out ≡ encode_rows ws ++ rest → new ≡ encode_rows (reverse ws) ++ rest)
    → new ≡ front (encode_rows (map written (map (undo d) s.rows))) old
list_written {d} {count} {t} {old} {out} {new} {s} h l f =
    let us = undo_rows d s.rows in
    let vs = map written (map (undo d) s.rows) in
    let e : length us ≡ count = omega (arith, undo_length d s.rows, h.counted) in
    let m : length (encode_rows us) ≤ length old = omega (arith, rows_bytes us) in
    let k : length vs ≡ length us = length-map (map (undo d) s.rows) written ∙ length-map s.rows (undo d) ∙ sym (undo_length d s.rows) in
    let q : length (encode_rows us) ≡ length (encode_rows vs) = omega (arith, rows_bytes us, rows_bytes vs) in
    f us (drop (length (encode_rows us)) old) e (h.listed ∙ write_front old (encode_rows us) m)
    ∙ ap (λ (w : List WrittenRow). encode_rows w ++ drop (length (encode_rows us)) old) (undo_reversed d s.rows)
    ∙ ap (λ (x : ℕ). encode_rows vs ++ drop x old) q

-- the reduction from the start, and the reversal
pub list_reduced : {d count : ℕ} (n : ℕ) (u : List Pauli) {t : List Pauli} {old out new : List ℕ} → Holds d 0 old t out count (reduce d n (start u)) → 8 * count ≤ length old
    → ((ws : List WrittenRow) (rest : List ℕ) → length ws ≡ count → out ≡ encode_rows ws ++ rest → new ≡ encode_rows (reverse ws) ++ rest)
    → (count ≡ length (synthesised d n u)) × (new ≡ front (encode_rows (map written (synthesised d n u))) old)
unfolding synthesised
list_reduced {d} n u h l f = let rows = (reduce d n (start u)).rows in (omega (arith, h.counted, length-map rows (undo d)), list_written h l f)

-- ---- the list is read again
module _ {d n : ℕ} {t : List Pauli} (one : 1 < d) (formed : WellFormed d n t) (sound : Sound d n t) where
  hands_back : {count : ℕ} {old new : List ℕ} → count ≡ length (synthesised d n t) → new ≡ front (encode_rows (map written (synthesised d n t))) old → HandsBack d n t count old new
  hands_back {count} {old} {new} e f =
      let rows = synthesised d n t in
      let ws = map written rows in
      let all = sound_realised one formed sound in
      let k : length (encode_rows ws) ≡ 8 * count = omega (arith, rows_bytes ws, length-map rows written) in
      let taken : handed count new ≡ encode_rows ws = ap (take (8 * count)) f ∙ take_at (encode_rows ws) (drop (length (encode_rows ws)) old) (8 * count) k in
      let read : list_rows (handed count new) ≡ ws = ap list_rows taken ∙ list_encoded ws in
      let same : rows_of (handed count new) ≡ rows = ap (map meant) read ∙ rows_meant rows in
      record {
        legal = ap (all_legal_rows d n) read ∙ all_legal_written d n all.0.legal;
        counted = ap length same ∙ sym e;
        short = subst (λ (x : ℕ). x ≤ 5 * (n * n) + 6 * n) (sym e) all.1;
        realises = subst (λ (l : List Row). Realises d n l t) (sym same) all.0;
        images = λ p r. ap (λ (l : List Row). run d l p) same ∙ all.2 p r;
        later = ap (drop (8 * count)) f ∙ drop_at (encode_rows ws) (drop (length (encode_rows ws)) old) (8 * count) k ∙ ap (λ (x : ℕ). drop x old) k;
      }

-- ---- the promise, from its number, its list and its refusals. A call that isn't malformed has a tableau of 2n columns in range
module _ {d n malformed : ℕ} {t : List Pauli} {old new : List ℕ} {a : Answer} (well : malformed ≡ 0 → (1 < d) × WellFormed d n t) (e : a.number ≡ or_else malformed (soundness_of d n t)) where
  promise : (a.number ≡ 0 → HandsBack d n t a.value old new) → (a.number ≢ 0 → (a.value ≡ 0) × (new ≡ old)) → Promise d n malformed t old new a
  promise f g = record {
    number = e;
    unrealisable = λ z. subst (λ (x : ℕ). ((x ≡ 7) ⊎ (x ≡ 8)) ↔ ¬ Realisable d n t) (sym (at z)) (refused_unrealisable (well z).0 (well z).1);
    seven = λ z. subst (λ (x : ℕ). (x ≡ 7) ↔ ¬ Pairing d n t) (sym (at z)) soundness_says.seven;
    eight = λ z. subst (λ (x : ℕ). (x ≡ 8) ↔ (Pairing d n t × ¬ Even d n t)) (sym (at z)) soundness_says.eight;
    accepted = λ z. subst (λ (x : ℕ). (x ≡ 0) ↔ Realisable d n t) (sym (at z)) (accepted_realisable (well z).0 (well z).1);
    list = f;
    refused = g;
  }
    where
      at : malformed ≡ 0 → a.number ≡ soundness_of d n t
      at z = e ∙ or_else_skip (soundness_of d n t) z

  -- where nothing is refused, and the list is written
  pub promise_accepted : a.number ≡ 0 → a.value ≡ length (synthesised d n t) → new ≡ front (encode_rows (map written (synthesised d n t))) old → Promise d n malformed t old new a
  promise_accepted z v f =
      let w = or_else_none malformed (soundness_of d n t) (sym e ∙ z) in
      promise (λ q. hands_back (well w.0).0 (well w.0).1 (sound_good w.1) v f) (λ ne. absurd (ne z))

-- where it is refused
pub promise_refused : {A : Type 0} {d n malformed : ℕ} {t : List Pauli} {old : List ℕ} {a : Answer} {r : Result A Refusal} → (malformed ≡ 0 → (1 < d) × WellFormed d n t) → Stops r (or_else malformed (soundness_of d n t))
    → (a.number ≡ number_of r) × (a.value ≡ 0) → Promise d n malformed t old old a
promise_refused {d = d} {n = n} {malformed = malformed} {t = t} {a = a} well s e =
    let q : a.number ≡ or_else malformed (soundness_of d n t) = e.0 ∙ s.same in
    promise well q (λ z. absurd (stops_some s (sym q ∙ z))) (λ ne. (e.1, refl))
