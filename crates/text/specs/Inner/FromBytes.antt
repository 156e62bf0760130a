-- What the functions that convert answer, and what is printed for the bytes of rows, of a tableau's 2n columns of 1 + 2n numbers, and of the columns of any T file at a
-- buffer's front.
use Rattle.std.specs.Prelude.{◌≡◌, Bool, true, false, Result, Ok, Err, List, ◌++◌, ℕ, ◌*◌, ◌≤◌, length, take, IfOk}
use Rattle.std.specs.Borrow.{MutBor}
use Rattle.arith.specs.declared.checks.Refusal.{Refusal}
use Rattle.arith.specs.Refusals.{refusal_number, or_else, given_of, list_size_of, row_of}
use Rattle.arith.specs.Bytes.{bytes_of}
use Rattle.gates.specs.declared.kind.Kind.{Kind}
use Rattle.gates.specs.declared.kind.Kind.TheVariants as kind
use Rattle.gates.specs.Written.{WrittenRow, all_rows, list_rows}
use Rattle.text.specs.Format.{File, tableau_file, print_refusal}
use Rattle.text.specs.Partner.{legal_partner}
use Rattle.text.specs.Convert.{full_columns, PrintsFor}
use Rattle.text.specs.Inner.Reads.{file_numbers}

-- what is printed, where so many bytes are printed at the output's front, or a refusal is still to be printed
abbrev pub printed_of : Result ℕ Refusal → List ℕ → List ℕ
printed_of (Ok count) out = take count out
printed_of (Err k) out = print_refusal (refusal_number k)

-- P holds of it, in the same output
pub record Outputs (P : List ℕ → Type 0) (r : Result ℕ Refusal) (old new : MutBor (List ℕ)) : Type 0 where
  pub output : new.ghost_name ≡ old.ghost_name
  pub inside : IfOk r (λ count. count ≤ length new.now)
  pub holds : P (printed_of r new.now)

-- 1, 2, 3 and 6 of a partner's list
abbrev pub partner_list_refusal : ℕ → ℕ → List ℕ → ℕ
partner_list_refusal d n list = or_else (given_of d n) (or_else (list_size_of (length list)) (row_of (all_rows (legal_partner d n) (list_rows list))))

-- whether a partner's row of the kind is ours undone
abbrev pub undone_of : Kind → Bool
undone_of kind.F = false
undone_of kind.S = false
undone_of kind.A = true
undone_of kind.M = true
undone_of kind.X = true
undone_of kind.Z = false
undone_of kind.C = false
undone_of kind.W = false

-- the rows are those of an L file or of a G file
abbrev pub RowsConvert : (ℕ → ℕ → List WrittenRow → File) → ℕ → ℕ → List ℕ → List ℕ → Type 0
RowsConvert file d n list output = (rows : List WrittenRow) → length list ≡ 8 * length rows → list_rows list ≡ rows → PrintsFor (file d n rows) output

abbrev pub TableauConverts : ℕ → ℕ → List ℕ → List ℕ → Type 0
TableauConverts d n tableau output =
    (columns : List (List ℕ)) → full_columns n columns ≡ true → length columns ≡ 2 * n → tableau ≡ bytes_of (file_numbers (tableau_file d n columns)) → PrintsFor (tableau_file d n columns) output

abbrev pub ColumnsConvert : ℕ → ℕ → ℕ → Bool → List ℕ → List ℕ → Type 0
ColumnsConvert d n count full numbers output =
    (columns : List (List ℕ)) (rest : List ℕ) → count ≡ length columns → full ≡ full_columns n columns → numbers ≡ bytes_of (file_numbers (tableau_file d n columns)) ++ rest
    → PrintsFor (tableau_file d n columns) output
