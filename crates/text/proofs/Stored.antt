-- Storing T files in place of L files: the theorems of specs/Stored. Assumes nothing.
use mathlib.Core.Path.{◌≡◌, refl, sym, ap, ap₂, subst, ◌∙◌}
use mathlib.Core.List.{List, [], ◌∷◌, ◌++◌, map}
use Prim.Native.Nat.{ℕ, ◌+◌, ◌*◌, ◌≤◌}
use native.Mathlib.Nat.{mul-le-mul}
use native.Mathlib.Omega.{arith}
use lib.ListN.{length, length-map, length-append}
use borrow.Author.Rules.{rules}
use Rattle.arith.specs.Refusals.{given_of}
use Rattle.arith.proofs.Refusals.{Given, or_else_none, given_good, row_good}
use Rattle.arith.proofs.Passes.{given_passes, both_pass}
use Rattle.pauli.specs.Pauli.{Pauli, Below, none, more, InRange}
use Rattle.pauli.specs.Bytes.{numbers_of}
use Rattle.pauli.proofs.Encoding.{numbers_below}
use Rattle.gates.specs.Row.{Row, AllLegal}
use Rattle.gates.specs.Written.{WrittenRow, meant, all_legal_rows}
use Rattle.gates.proofs.Written.{all_legal_meant}
use Rattle.tableau.specs.Tableau.{AllInRange, none, more, WellFormed, tableau_of, image}
use Rattle.tableau.specs.Range.{tableau_range_of}
use Rattle.tableau.specs.Soundness.{soundness_of}
use Rattle.tableau.proofs.Bytes.{numbers_length, ranges_pass}
use Rattle.tableau.proofs.Comparing.{equal_tableaus}
use Rattle.tableau.proofs.Run.{run_image, tableau_formed, tableau_sound}
use Rattle.tableau.proofs.Tests.{soundness_says}
use Rattle.text.specs.Format.{digits, line, File, tableau_file, list_file, partner_file, header, column_line, concatenated, Every, Fits, ColumnFits, FileFits, print_file}
use Rattle.text.specs.Convert.{row_count_of, list_refusal, tableau_print, pauli_of, columns_refusal, PrintsList}
use Rattle.text.specs.Stored.{EqualPrints, StoredFiles}
use Rattle.text.proofs.Lists.{columns_full}
use Rattle.text.proofs.Tableaus.{pauli_numbers, counts_hold, field_length}
use Rattle.text.proofs.Unique.{print_unique}

-- ---- a tableau's columns in a T file
-- are read as the tableau again
columns_read : {d n : ℕ} {t : List Pauli} → AllInRange d n t → map (pauli_of n) (map numbers_of t) ≡ t
columns_read none = refl
columns_read {n = n} (more {c = c} r rs) = ap₂ (λ (p : Pauli) (ps : List Pauli). p ∷ ps) (pauli_numbers n c r.v_length) (columns_read rs)

-- fit the format
column_fits : {d n : ℕ} {p : Pauli} → d ≤ 1024 → InRange d n p → ColumnFits (numbers_of p)
unfolding Every
column_fits h r = (omega (arith, numbers_length r), every (numbers_below (omega arith) r))
  where
    every : {xs : List ℕ} → Below 65536 xs → Every Fits xs
    every none = search rules
    every (more l b) = (omega arith, every b)

columns_fit : {d n : ℕ} {t : List Pauli} → d ≤ 1024 → AllInRange d n t → Every ColumnFits (map numbers_of t)
unfolding Every
columns_fit h none = search rules
columns_fit h (more r rs) = (column_fits h r, columns_fit h rs)

-- and are few bytes: a number of five digits and a mark take six
column_length : (xs : List ℕ) → Every Fits xs → length (column_line xs) ≤ 1 + 6 * length xs
unfolding Every line
column_length [] f = omega arith
column_length (x ∷ []) f = omega (arith, field_length x (10 ∷ []) f.0)
column_length (x ∷ y ∷ xs) f = omega (arith, field_length x (44 ∷ column_line (y ∷ xs)) f.0, column_length (y ∷ xs) f.1)

columns_length : {d n : ℕ} {t : List Pauli} → d ≤ 1024 → AllInRange d n t → length (concatenated column_line (map numbers_of t)) ≤ length t * (7 + 12 * n)
unfolding concatenated
columns_length h none = omega arith
columns_length {n = n} h (more {c = c} {cs = cs} r rs) =
    omega (arith, length-append (column_line (numbers_of c)) (concatenated column_line (map numbers_of cs)), column_length (numbers_of c) (column_fits h r).1, numbers_length r, columns_length h rs)

-- ---- the T file that is printed for an L file that isn't refused
record Accepted (d n : ℕ) (rows : List WrittenRow) : Type 0 where
  given : Given d n
  legal : AllLegal d n (map meant rows)

accepted : (d n : ℕ) (rows : List WrittenRow) → list_refusal d n rows ≡ 0 → Accepted d n rows
accepted d n rows e =
    let z = or_else_none (given_of d n) _ e in
    let legal = row_good (all_legal_rows d n rows) (or_else_none (row_count_of (length rows)) _ z.1).1 in
    record { given = given_good z.0; legal = all_legal_meant d n rows legal }

abbrev columns_of : ℕ → ℕ → List WrittenRow → List (List ℕ)
columns_of d n rows = map numbers_of (tableau_of d n (map meant rows))

module _ {d n : ℕ} {rows : List WrittenRow} (a : Accepted d n rows) where
  formed : WellFormed d n (tableau_of d n (map meant rows))
  formed = tableau_formed a.given.dimension.d_low a.legal

  same_tableau : map (pauli_of n) (columns_of d n rows) ≡ tableau_of d n (map meant rows)
  same_tableau = columns_read formed.ranges

  fits : FileFits (tableau_file d n (columns_of d n rows))
  fits = ((omega (arith, a.given.dimension), omega (arith, a.given.width)), columns_fit a.given.dimension.d_high formed.ranges)

  small : length (tableau_print d n rows) ≤ 65536
  unfolding line
  small =
      let c : List ℕ = digits n ++ (10 ∷ []) in
      let cs = concatenated column_line (columns_of d n rows) in
      let wide : 2 * n ≤ 32 = omega (arith, a.given.width) in
      let long : 7 + 12 * n ≤ 199 = omega (arith, a.given.width) in
      let many : 2 * n * (7 + 12 * n) ≤ 32 * 199 = mul-le-mul wide long in
      let of_columns : length cs ≤ 2 * n * (7 + 12 * n) = subst (λ (m : ℕ). length cs ≤ m * (7 + 12 * n)) formed.columns (columns_length a.given.dimension.d_high formed.ranges) in
      omega (arith, length-append (header 84 d n) cs, field_length n (10 ∷ []) (omega (arith, a.given.width)), field_length d (44 ∷ c) (omega (arith, a.given.dimension)), of_columns, many)

  -- it is not refused
  not_refused : columns_refusal d n (columns_of d n rows) ≡ 0
  not_refused =
      let sound = tableau_sound a.given.dimension.d_low a.legal in
      both_pass
      (both_pass (given_passes a.given.dimension a.given.width)
      (both_pass (counts_hold n _ _ (columns_full formed.ranges) (length-map (tableau_of d n (map meant rows)) numbers_of ∙ formed.columns)) (ap (tableau_range_of d) same_tableau ∙ ranges_pass formed.ranges)))
      (ap (soundness_of d n) same_tableau ∙ soundness_says.accepted.1 (sound.pairing, sound.parities))

pub stored_files : StoredFiles
stored_files d n rows text stored later laid e first second = record {
  others = list.rows;
  laid = list.laid;
  legal = list.legal;
  alike = λ p r. list.images p r ∙ ap (λ (t : List Pauli). image d n t p) (same_tableau a) ∙ sym (run_image a.given.dimension.d_low a.legal p r);
}
  where
    a : Accepted d n rows
    a = accepted d n rows e

    printed : stored ≡ tableau_print d n rows
    printed = (first.file (list_file d n rows) laid).accepted e

    list : PrintsList d n (map (pauli_of n) (columns_of d n rows)) later
    list = (second.file (tableau_file d n (columns_of d n rows)) (omega (arith, ap length printed, small a), (fits a, printed))).accepted (not_refused a)

-- ---- equal T files
columns_in : File → List (List ℕ)
columns_in (tableau_file d n cs) = cs
columns_in (list_file d n rs) = []
columns_in (partner_file d n rs) = []

pub equal_prints : EqualPrints
unfolding columns_in
equal_prints d n xs ys e f =
    let a = accepted d n xs e in
    let b = accepted d n ys f in
    let theorem = equal_tableaus d n (map meant xs) (map meant ys) a.given.dimension.d_low a.legal b.legal in (
      λ q.
          let files = print_unique (tableau_file d n (columns_of d n xs)) (tableau_file d n (columns_of d n ys)) (fits a) (fits b) q in
          theorem.0 (sym (same_tableau a) ∙ ap (λ (g : File). map (pauli_of n) (columns_in g)) files ∙ same_tableau b),
      λ alike. ap (λ (t : List Pauli). print_file (tableau_file d n (map numbers_of t))) (theorem.1 alike),
    )
