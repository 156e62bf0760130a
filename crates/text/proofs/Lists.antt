-- What the text program prints for an L file: its tableau, or a refusal. Assumes nothing.
use mathlib.Core.Path.{◌≡◌, refl, sym, ap, ap₂, ◌∙◌}
use mathlib.Core.Logic.{◌≢◌}
use mathlib.Core.Bool.{Bool, true, ◌&&◌}
use mathlib.Core.List.{List, [], ◌∷◌, ◌++◌, map}
use Prim.Native.Nat.{ℕ, ◌+◌, ◌*◌, ◌/◌, ◌%◌, ◌≤◌}
use native.Mathlib.Omega.{arith}
use lib.ListN.{length, take, drop, length-map, length-append}
use lib.Seq.{take_at, length-take-le}
use lib.Dec.{leb, eqb}
use borrow.Author.Tests.{eq-eqb}
use Rattle.arith.specs.Bytes.{bytes_of, front}
use Rattle.arith.specs.Answers.{Written}
use Rattle.arith.specs.declared.checks.Refusal.{Refusal}
use Rattle.arith.specs.declared.checks.Refusal.TheVariants.{Length}
use Rattle.std.specs.Prelude.{Result, Ok, Err}
use Rattle.std.specs.Borrow.{MutBor}
use Rattle.arith.specs.Refusals.{refusal_number, number_of, or_else, given_of, whole_of, list_size_of, room_of, row_of, unless_holds}
use Rattle.arith.proofs.Refusals.{not_zero, or_else_past, given_good}
use Rattle.arith.proofs.Passes.{room_passes}
use Rattle.pauli.specs.Pauli.{Pauli}
use Rattle.pauli.specs.Bytes.{numbers_of}
use Rattle.pauli.proofs.Ranges.{entries_length}
use Rattle.gates.specs.Written.{WrittenRow, meant, all_legal_rows, list_rows}
use Rattle.gates.proofs.Written.{all_legal_meant}
use Rattle.tableau.specs.Tableau.{tableau_of, AllInRange, none, more, WellFormed}
use Rattle.tableau.specs.Bytes.{tableau_bytes, tableau_numbers, encode_tableau}
use Rattle.tableau.specs.Calls.{tableau_refusal, tableau_answer}
use Rattle.tableau.proofs.Accepted.{tableau_accepted}
use Rattle.tableau.proofs.Bytes.{tableau_small}
use Rattle.tableau.proofs.Run.{tableau_formed}
use Rattle.text.specs.Format.{tableau_file, list_file, concatenated, print_file, print_refusal}
use Rattle.text.specs.Inner.Prints.{Prints, tableau_file_of}
use Rattle.text.specs.Convert.{full_columns, row_count_of, list_refusal, tableau_print}
use Rattle.text.specs.Inner.FromBytes.{printed_of, Outputs, RowsConvert}
use Rattle.text.proofs.Back.{tableau_back}

-- ---- the first r bytes of the output are what was printed
pub printed : {text old new : List ℕ} {r : ℕ} → Prints text old r new → take r new ≡ text
printed {text} {old} {new} {r} p = ap (take r) p.fronts ∙ take_at text (drop (length text) old) r (sym p.counts)

pub printed_room : {text old new : List ℕ} {r : ℕ} → Prints text old r new → r ≤ length new
printed_room {text} {old} p = omega (arith, p.counts, ap length p.fronts, length-append text (drop (length text) old))

-- the front of a buffer is as long as is said
pub front_length : (k : ℕ) (l : List ℕ) → k ≤ length l → k ≡ length (take k l)
front_length k l h = sym (length-take-le k l h)

-- ---- what a function that converts answers
-- a refusal's number is not 0
pub refused_some : (k : Refusal) → refusal_number k ≢ 0
refused_some k e = not_zero {A = ℕ} {r = Err k} e refl

-- ---- what a call's number says: it is done where the number is 0 (and only there: `good` of arith), and refused where it isn't
pub none_done : {A : Type 0} (r : Result A Refusal) → number_of r ≡ 0 → (a : A) × (r ≡ Ok a)
none_done (Ok a) e = (a, refl)
none_done (Err k) e = absurd (refused_some k e)

pub some_refused : {A : Type 0} (r : Result A Refusal) → number_of r ≢ 0 → (k : Refusal) × (r ≡ Err k)
some_refused (Ok a) h = absurd (h refl)
some_refused (Err k) h = (k, refl)

-- what holds of whatever P holds of
pub outputs_as : {P Q : List ℕ → Type 0} {r : Result ℕ Refusal} {old new : MutBor (List ℕ)} → ((output : List ℕ) → P output → Q output) → Outputs P r old new → Outputs Q r old new
outputs_as {r = r} {new = new} f h = record { output = h.output; inside = h.inside; holds = f (printed_of r new.now) h.holds }

-- ---- the refusals of a list are those of its rows
list_size : (k : ℕ) → list_size_of (8 * k) ≡ row_count_of k
unfolding whole_of list_size_of row_count_of
list_size k =
    let e : eqb (8 * k % 8) 0 ≡ true = eq-eqb (8 * k % 8) 0 (omega arith) in
    let f : 8 * k / 8 ≡ k = omega arith in
    ap₂ (λ (a b : Bool). unless_holds Length (a && b)) e (ap (λ (m : ℕ). leb m 4096) f)

pub rows_size : (list : List ℕ) (rows : List WrittenRow) → length list ≡ 8 * length rows → list_size_of (length list) ≡ row_count_of (length rows)
rows_size list rows l = ap list_size_of l ∙ list_size (length rows)

refusal_same : (d n : ℕ) (list : List ℕ) (rows : List WrittenRow) (room : ℕ) → length list ≡ 8 * length rows → list_rows list ≡ rows → 2112 ≤ room
    → tableau_refusal d n list room ≡ list_refusal d n rows
refusal_same d n list rows room l e h = or_else_past (given_of d n) (λ g. ap₂ or_else (rows_size list rows l) (ap₂ or_else (roomy (given_good g).width.n_high) rowed))
  where
    roomy : n ≤ 16 → room_of (tableau_bytes n) room ≡ 0
    roomy l = room_passes {want = tableau_bytes n} (omega (arith, tableau_small n l))

    rowed : row_of (all_legal_rows d n (list_rows list)) ≡ row_of (all_legal_rows d n rows)
    rowed = ap (λ (l : List WrittenRow). row_of (all_legal_rows d n l)) e

-- ---- the tableau's bytes are its columns' numbers
columns_concatenated : (t : List Pauli) → concatenated (λ (c : List ℕ). c) (map numbers_of t) ≡ tableau_numbers t
unfolding concatenated
columns_concatenated [] = refl
columns_concatenated (c ∷ cs) = ap (λ (l : List ℕ). numbers_of c ++ l) (columns_concatenated cs)

pub columns_full : {d n : ℕ} {t : List Pauli} → AllInRange d n t → full_columns n (map numbers_of t) ≡ true
unfolding full_columns
columns_full none = refl
columns_full {n = n} (more {c = c} r rs) = ap₂ (λ (a b : Bool). a && b) (eq-eqb (length (numbers_of c)) (1 + 2 * n) (omega (arith, entries_length r))) (columns_full rs)

columns_printed : {d n : ℕ} {t : List Pauli} (rest : List ℕ) → WellFormed d n t → tableau_file_of d n (encode_tableau t ++ rest) ≡ tableau_file d n (map numbers_of t)
unfolding encode_tableau
columns_printed {d} {n} {t} rest f =
    ap (λ (xs : List ℕ). tableau_file_of d n (bytes_of xs ++ rest)) (sym (columns_concatenated t))
    ∙ tableau_back d n (map numbers_of t) rest (columns_full f.ranges) (length-map t numbers_of ∙ f.columns)

-- ---- what is printed, where the call's answer is k
module _ (d n : ℕ) (list old new : List ℕ) (k : ℕ) (w : Written (tableau_refusal d n list (length old)) (tableau_answer d n list) old new k) where
  -- a refusal
  pub list_refused : {output : List ℕ} → 2112 ≤ length old → k ≢ 0 → output ≡ print_refusal k → RowsConvert list_file d n list output
  list_refused h z p = λ rows l e.
      let same : k ≡ list_refusal d n rows = w.number ∙ refusal_same d n list rows (length old) l e h in
      record { refused = λ r. p ∙ ap print_refusal same; accepted = λ r. absurd (z (same ∙ r)) }

  none_refused : k ≡ 0 → tableau_refusal d n list (length old) ≡ 0
  none_refused z = sym w.number ∙ z

  -- the tableau's bytes are there
  pub list_width : k ≡ 0 → n ≤ 16
  list_width z = (tableau_accepted list (length old) (none_refused z)).given.width.n_high

  written : k ≡ 0 → new ≡ front (tableau_answer d n list) old
  written z = rw (none_refused z) at w.out

  -- the tableau
  pub list_printed : {output : List ℕ} → 2112 ≤ length old → k ≡ 0 → output ≡ print_file (tableau_file_of d n new) → RowsConvert list_file d n list output
  list_printed {output} h z p = λ rows l e. record { refused = λ r. absurd (r (sym (refusal_same d n list rows (length old) l e h) ∙ none_refused z)); accepted = λ r. prints rows e }
    where
      prints : (rows : List WrittenRow) → list_rows list ≡ rows → output ≡ tableau_print d n rows
      prints rows same =
          let a = tableau_accepted list (length old) (none_refused z) in
          let formed = tableau_formed (omega (arith, a.given.dimension)) (all_legal_meant d n (list_rows list) a.legal) in
          p ∙ ap print_file (ap (tableau_file_of d n) (written z) ∙ columns_printed (drop (length (tableau_answer d n list)) old) formed ∙ ap (λ (l : List WrittenRow). tableau_file d n (map numbers_of (tableau_of d n (map meant l)))) same)
