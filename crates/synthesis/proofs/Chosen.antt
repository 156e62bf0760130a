-- The list handed back is a function of d, n and the tableau: two calls with one tableau, neither malformed or both in one way, hand back one list, whatever the outputs held. Assumes nothing.
use mathlib.Core.Path.{◌≡◌, sym, ◌∙◌, ap, subst}
use mathlib.Core.Logic.{◌≢◌}
use mathlib.Core.List.{List, map}
use Rattle.std.specs.Prelude.{Result}
use Prim.Native.Nat.{ℕ, ◌*◌}
use native.Mathlib.Omega.{arith}
use lib.ListN.{length, take, drop, length-map}
use lib.Seq.{take_at}
use Rattle.arith.specs.Bytes.{front}
use Rattle.arith.proofs.Cases.{by_eq}
use Rattle.arith.specs.declared.checks.Answer.{Answer}
use Rattle.arith.specs.Refusals.{number_of}
use Rattle.arith.proofs.Refusals.{Stops, stops_some}
use Rattle.arith.specs.declared.checks.Refusal.{Refusal}
use Rattle.pauli.specs.Pauli.{Pauli}
use Rattle.gates.specs.Written.{written, rows_of}
use Rattle.gates.proofs.Written.{rows_bytes}
use Rattle.tableau.specs.Bytes.{decode_tableau}
use Rattle.synthesis.specs.Inner.Reduce.{synthesised}
use Rattle.synthesis.specs.Demand3.{handed, malformed_of, Promise, Synthesised}
use Rattle.synthesis.specs.Chosen.{list_of, Chosen}

-- ---- an accepted call, and a refused one
pub chosen_accepted : {d n : ℕ} {t : List Pauli} {new : List ℕ} {a : Answer} (old : List ℕ) → a.value ≡ length (synthesised d n t) → new ≡ front (list_of d n t) old → Chosen d n t new a
chosen_accepted {d} {n} {t} {new} {a} old v f =
    let rows = synthesised d n t in
    let k : length (list_of d n t) ≡ 8 * a.value = omega (arith, rows_bytes (map written rows), length-map rows written) in
    record { list = λ z. ap (take (8 * a.value)) f ∙ take_at (list_of d n t) (drop (length (list_of d n t)) old) (8 * a.value) k }

pub chosen_refused : {A : Type 0} {d n z : ℕ} {t : List Pauli} {new : List ℕ} {a : Answer} {r : Result A Refusal} → Stops r z → a.number ≡ number_of r → Chosen d n t new a
chosen_refused s e = record { list = λ z. absurd (stops_some s (sym (e ∙ s.same) ∙ z)) }

-- ---- what an output held before makes no difference
pub record SameAnswer (a a' : Answer) (new new' : List ℕ) : Type 0 where
  pub number : a.number ≡ a'.number
  pub value : a.value ≡ a'.value
  pub list : handed a.value new ≡ handed a'.value new'

pub promise_no_difference : {d n malformed : ℕ} {t : List Pauli} {old new old' new' : List ℕ} {a a' : Answer}
    → Promise d n malformed t old new a → Chosen d n t new a → Promise d n malformed t old' new' a' → Chosen d n t new' a' → SameAnswer a a' new new'
promise_no_difference {new = new} {new' = new'} {a} {a'} s c s' c' = by_eq a.number 0 accepted refused
  where
    numbers : a.number ≡ a'.number
    numbers = s.number ∙ sym s'.number

    accepted : a.number ≡ 0 → SameAnswer a a' new new'
    accepted z =
        let z' = sym numbers ∙ z in
        let lists = c.list z ∙ sym (c'.list z') in
        record { number = numbers; value = sym (s.list z).counted ∙ ap (λ (b : List ℕ). length (rows_of b)) lists ∙ (s'.list z').counted; list = lists }

    refused : a.number ≢ 0 → SameAnswer a a' new new'
    refused f =
        let v = (s.refused f).0 in
        let v' = (s'.refused (λ z. f (numbers ∙ z))).0 in
        record { number = numbers; value = v ∙ sym v'; list = ap (λ (x : ℕ). handed x new) v ∙ sym (ap (λ (x : ℕ). handed x new') v') }

-- of two calls: outputs of one length are malformed alike
pub old_no_difference : {d n : ℕ} (bytes : List ℕ) {old new old' new' : List ℕ} {a a' : Answer} → length old ≡ length old'
    → Synthesised d n bytes old new a → Chosen d n (decode_tableau n bytes) new a → Synthesised d n bytes old' new' a' → Chosen d n (decode_tableau n bytes) new' a' → SameAnswer a a' new new'
old_no_difference {d} {n} bytes {old' = old'} {new' = new'} {a' = a'} e s c s' c' =
    promise_no_difference s c (subst (λ (k : ℕ). Promise d n (malformed_of d n bytes k) (decode_tableau n bytes) old' new' a') (sym e) s') c'
