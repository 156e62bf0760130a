-- The Paulis of a batch, one after the other from the front of its bytes. Assumes nothing.
use mathlib.Core.Path.{◌≡◌, refl, sym, ap, ap₂, ◌∙◌}
use mathlib.Core.List.{List, [], ◌∷◌, ◌++◌, append-nil}
use Prim.Native.Nat.{ℕ, suc, min, ◌+◌, ◌*◌, ◌/◌, ◌<◌}
use native.Mathlib.Nat.{add-div_left, div-eq_of_lt}
use native.Mathlib.Omega.{arith}
use lib.ListN.{length, get_or, get_or-append, length-append, take, drop, take-append-drop}
use lib.Seq.{get_or-append-add, length-take-le, take-length}
use Rattle.arith.specs.Bytes.{tab, number_at}
use Rattle.arith.proofs.Bytes.{tab_none, tab_cons, tab_ext}
use Rattle.arith.proofs.Cases.{by_less}
use Rattle.arith.specs.Refusals.{or_else, number_of}
use Rattle.arith.specs.declared.checks.Refusal.{Refusal}
use Rattle.arith.proofs.Refusals.{good, stop}
use Rattle.std.specs.Prelude.{Result, Ok, Err}
use Rattle.pauli.specs.Pauli.{Pauli}
use Rattle.pauli.specs.Bytes.{pauli_bytes, decode}
use Rattle.pauli.specs.Range.{pauli_range_of}
use Rattle.pauli.proofs.Ranges.{pauli_path}
use Rattle.tableau.specs.Bytes.{column_at}
use Rattle.tableau.specs.Range.{tableau_range_of}
use Rattle.tableau.specs.Inner.Parts.{decode_batch}

-- a number at the front, and one behind the front
number_front : (p rest : List ℕ) (k at : ℕ) → 2 * k + 1 < length p → at ≡ k → number_at (p ++ rest) at ≡ number_at p k
unfolding number_at
number_front p rest k at h e = rw e (ap₂ (λ (x y : ℕ). x + 256 * y) (get_or-append p rest 0 (2 * k) (omega arith)) (get_or-append p rest 0 (2 * k + 1) h))

number_behind : (p rest : List ℕ) (m k at : ℕ) → length p ≡ 2 * m → at ≡ m + k → number_at (p ++ rest) at ≡ number_at rest k
unfolding number_at
number_behind p rest m k at e f = ap₂ (λ (x y : ℕ). x + 256 * y) (byte (2 * at) (2 * k) (omega arith)) (byte (2 * at + 1) (2 * k + 1) (omega arith))
  where
    byte : (i j : ℕ) → i ≡ length p + j → get_or (p ++ rest) i 0 ≡ get_or rest j 0
    byte i j g = ap (λ (l : ℕ). get_or (p ++ rest) l 0) g ∙ get_or-append-add p rest j 0

module _ (n : ℕ) (p rest : List ℕ) (whole : length p ≡ pauli_bytes n) where
  -- the first Pauli, and one after it
  first_decoded : column_at n 0 (p ++ rest) ≡ decode n p
  first_decoded = pauli_path
      (number_front p rest 0 _ (omega arith) (omega arith))
      (tab_ext _ _ n (λ i l. number_front p rest (0 + 1 + i) _ (omega arith) (omega arith)))
      (tab_ext _ _ n (λ i l. number_front p rest (0 + 1 + n + i) _ (omega arith) (omega arith)))

  later_decoded : (j : ℕ) → column_at n (suc j) (p ++ rest) ≡ column_at n j rest
  later_decoded j = pauli_path
      (number_behind p rest (1 + 2 * n) _ _ whole (omega arith))
      (tab_ext _ _ n (λ i l. number_behind p rest (1 + 2 * n) _ _ whole (omega arith)))
      (tab_ext _ _ n (λ i l. number_behind p rest (1 + 2 * n) _ _ whole (omega arith)))

  pub batch_more : decode_batch n (p ++ rest) ≡ decode n p ∷ decode_batch n rest
  batch_more =
      let pos : 0 < pauli_bytes n = omega arith in
      let count : length (p ++ rest) / pauli_bytes n ≡ suc (length rest / pauli_bytes n) = ap (λ (m : ℕ). m / pauli_bytes n) (length-append p rest ∙ ap (λ (m : ℕ). m + length rest) whole) ∙ add-div_left (length rest) pos ∙ omega arith in
      ap (tab (λ j. column_at n j (p ++ rest))) count
      ∙ tab_cons (λ j. column_at n j (p ++ rest)) (length rest / pauli_bytes n)
      ∙ ap₂ (λ (x : Pauli) (l : List Pauli). x ∷ l) first_decoded (tab_ext _ _ (length rest / pauli_bytes n) (λ j l. later_decoded j))

pub batch_none : (n : ℕ) (b : List ℕ) → length b < pauli_bytes n → decode_batch n b ≡ []
batch_none n b h = ap (tab (λ j. column_at n j b)) (div-eq_of_lt h) ∙ tab_none _

-- the first of them, if there is one
pub batch_first : (n : ℕ) (b : List ℕ) → decode_batch n (take (min (pauli_bytes n) (length b)) b) ≡ take 1 (decode_batch n b)
batch_first n b = by_less (length b) (pauli_bytes n)
    (λ l. let e : min (pauli_bytes n) (length b) ≡ length b = omega arith in rw (e, take-length b, batch_none n b l) refl)
    (λ g.
    let e : min (pauli_bytes n) (length b) ≡ pauli_bytes n = omega arith in
    let h : length (take (pauli_bytes n) b) ≡ pauli_bytes n = length-take-le (pauli_bytes n) b g in
    let none : decode_batch n [] ≡ [] = batch_none n [] (omega arith) in
    rw e (ap (decode_batch n) (sym (append-nil (take (pauli_bytes n) b))) ∙ batch_more n (take (pauli_bytes n) b) [] h ∙ ap (λ (l : List Pauli). decode n (take (pauli_bytes n) b) ∷ l) none
    ∙ sym (ap (take 1) (ap (decode_batch n) (sym (take-append-drop (pauli_bytes n) b)) ∙ batch_more n (take (pauli_bytes n) b) (drop (pauli_bytes n) b) h))))

-- ---- a loop that tests the Paulis, where those in the bytes that are left decide: it refuses at p, goes on after p, or has passed all
ranges_step : (d n : ℕ) (p rest : List ℕ) → length p ≡ pauli_bytes n → tableau_range_of d (decode_batch n (p ++ rest)) ≡ or_else (pauli_range_of d (decode n p)) (tableau_range_of d (decode_batch n rest))
unfolding tableau_range_of
ranges_step d n p rest h = ap (tableau_range_of d) (batch_more n p rest h)

pub chunk_refuse : (d n : ℕ) (p rest left : List ℕ) {x : ℕ} {A : Type 0} {k : Refusal} {r : Result A Refusal} → left ≡ p ++ rest → length p ≡ pauli_bytes n → x ≡ tableau_range_of d (decode_batch n left)
    → number_of r ≡ pauli_range_of d (decode n p) → r ≡ Err k → number_of r ≡ x
chunk_refuse d n p rest left s h i e g = rw (i ∙ ap (λ (b : List ℕ). tableau_range_of d (decode_batch n b)) s ∙ ranges_step d n p rest h) (stop _ _ e g).same

pub chunk_pass : (d n : ℕ) (p rest left : List ℕ) {x : ℕ} {A : Type 0} {a : A} {r : Result A Refusal} → left ≡ p ++ rest → length p ≡ pauli_bytes n → x ≡ tableau_range_of d (decode_batch n left)
    → number_of r ≡ pauli_range_of d (decode n p) → r ≡ Ok a → x ≡ tableau_range_of d (decode_batch n rest)
chunk_pass d n p rest left s h i e g = rw (good _ e g) at (i ∙ ap (λ (b : List ℕ). tableau_range_of d (decode_batch n b)) s ∙ ranges_step d n p rest h)

pub chunk_end : (d n : ℕ) (left : List ℕ) {x : ℕ} → x ≡ tableau_range_of d (decode_batch n left) → length left < pauli_bytes n → 0 ≡ x
unfolding tableau_range_of
chunk_end d n left e h = sym (e ∙ ap (tableau_range_of d) (batch_none n left h))
