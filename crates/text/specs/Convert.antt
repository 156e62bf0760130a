-- What the text program prints for the text that it reads (document 01, "Text program"; document 02, P3).
use Rattle.std.specs.Prelude.{◌≡◌, ◌↔◌, ◌⊎◌, ◌≢◌, Bool, true, ◌&&◌, Option, None, Some, List, [], ◌∷◌, map, ℕ, ◌+◌, ◌*◌, ◌≤◌, length, take, drop, leb, eqb}
use Rattle.arith.specs.declared.checks.Refusal.TheVariants.{Length, Text}
use Rattle.arith.specs.Refusals.{refusal_number, unless_holds, or_else, given_of, size_of, row_of}
use Rattle.pauli.specs.Pauli.{Pauli, InRange, phase_only}
use Rattle.pauli.specs.Bytes.{numbers_of}
use Rattle.gates.specs.Row.{run}
use Rattle.gates.specs.Written.{WrittenRow, meant, all_rows, all_legal_rows}
use Rattle.tableau.specs.Tableau.{tableau_of, image}
use Rattle.tableau.specs.Range.{tableau_range_of}
use Rattle.tableau.specs.Soundness.{soundness_of}
use Rattle.synthesis.specs.Demand3.{Realises, Realisable}
use Rattle.text.specs.Format.{File, tableau_file, list_file, partner_file, print_file, print_refusal, LaidOut}
use Rattle.text.specs.Partner.{legal_partner, translated}

-- ---- an L file
-- 3, length: more than 4,096 rows
unfoldable pub row_count_of : ℕ → ℕ
row_count_of count = unless_holds Length (leb count 4096)

-- 1, 2, 3, 6
abbrev pub list_refusal : ℕ → ℕ → List WrittenRow → ℕ
list_refusal d n rows = or_else (given_of d n) (or_else (row_count_of (length rows)) (row_of (all_legal_rows d n rows)))

-- it prints its tableau as a T file: the columns in order, each phase, v's, w's
abbrev pub tableau_print : ℕ → ℕ → List WrittenRow → List ℕ
tableau_print d n rows = print_file (tableau_file d n (map numbers_of (tableau_of d n (map meant rows))))

-- what is printed for an L file; a refusal prints `R,` and its number as one line, and nothing else
pub record PrintsForRows (d n : ℕ) (rows : List WrittenRow) (output : List ℕ) : Type 0 where
  pub refused : list_refusal d n rows ≢ 0 → output ≡ print_refusal (list_refusal d n rows)
  pub accepted : list_refusal d n rows ≡ 0 → output ≡ tableau_print d n rows

-- ---- a G file: a partner's list (document 02, P3)
-- 1, 2, 3, 6, of the rows as they are written
abbrev pub partner_refusal : ℕ → ℕ → List WrittenRow → ℕ
partner_refusal d n rows = or_else (given_of d n) (or_else (row_count_of (length rows)) (row_of (all_rows (legal_partner d n) rows)))

-- what is printed for a G file: a refusal, or the tableau in document 01's convention
pub record PrintsForPartner (d n : ℕ) (rows : List WrittenRow) (output : List ℕ) : Type 0 where
  pub refused : partner_refusal d n rows ≢ 0 → output ≡ print_refusal (partner_refusal d n rows)
  pub accepted : partner_refusal d n rows ≡ 0 → output ≡ tableau_print d n (map (translated d) rows)

-- ---- a T file
-- the Pauli of a column's numbers: phase, v's, w's
abbrev pub pauli_of : ℕ → List ℕ → Pauli
pauli_of n [] = phase_only n 0
pauli_of n (phase ∷ entries) = record { phase = phase; v = take n entries; w = drop n entries }

-- whether every column has 1 + 2n numbers
unfoldable pub full_columns : ℕ → List (List ℕ) → Bool
full_columns n [] = true
full_columns n (c ∷ cs) = eqb (length c) (1 + 2 * n) && full_columns n cs

-- 3, length: a column has another count of numbers than 1 + 2n (`full` says that none has), or there are not 2n columns
unfoldable pub counts_of : ℕ → ℕ → Bool → ℕ
counts_of n count full = or_else (unless_holds Length full) (size_of (2 * n) count)

-- 1, 2, 3, 5
abbrev pub columns_malformed : ℕ → ℕ → List (List ℕ) → ℕ
columns_malformed d n columns = or_else (given_of d n) (or_else (counts_of n (length columns) (full_columns n columns)) (tableau_range_of d (map (pauli_of n) columns)))

-- these, then 7 and 8
abbrev pub columns_refusal : ℕ → ℕ → List (List ℕ) → ℕ
columns_refusal d n columns = or_else (columns_malformed d n columns) (soundness_of d n (map (pauli_of n) columns))

-- it prints a list as an L file, of which demand 3 holds: its rows are legal, it is short, it carries every unit Pauli to its column, and every Pauli, phase
-- included, to exactly its image under the tableau
pub record PrintsList (d n : ℕ) (t : List Pauli) (output : List ℕ) : Type 0 where
  pub rows : List WrittenRow
  -- the output is the L file of these rows, and reads back as such
  pub laid : LaidOut output (list_file d n rows)
  pub legal : all_legal_rows d n rows ≡ true
  pub short : length rows ≤ 5 * (n * n) + 6 * n
  pub realises : Realises d n (map meant rows) t
  pub images : (p : Pauli) → InRange d n p → run d (map meant rows) p ≡ image d n t p

-- what is printed for a T file
pub record PrintsForColumns (d n : ℕ) (columns : List (List ℕ)) (output : List ℕ) : Type 0 where
  -- a refusal, or a list where nothing is refused
  pub refused : columns_refusal d n columns ≢ 0 → output ≡ print_refusal (columns_refusal d n columns)
  pub accepted : columns_refusal d n columns ≡ 0 → PrintsList d n (map (pauli_of n) columns) output
  -- where 1, 2, 3 and 5 don't refuse the file, 7 or 8 is printed exactly when no list of legal rows, of any length, realises the tableau
  pub unrealisable : columns_malformed d n columns ≡ 0 → ((output ≡ print_refusal 7) ⊎ (output ≡ print_refusal 8)) ↔ ¬ Realisable d n (map (pauli_of n) columns)

-- ---- the program
-- what it prints for a file
abbrev pub PrintsFor : File → List ℕ → Type 0
PrintsFor (list_file d n rows) output = PrintsForRows d n rows output
PrintsFor (partner_file d n rows) output = PrintsForPartner d n rows output
PrintsFor (tableau_file d n columns) output = PrintsForColumns d n columns output

-- for the file that the text holds, and 9 for a text that holds none (a text longer than 65,536 bytes is one: see `LaidOut`)
pub record Converts (text output : List ℕ) : Type 0 where
  pub file : (f : File) → LaidOut text f → PrintsFor f output
  pub none : ((f : File) → LaidOut text f → ⊥) → output ≡ print_refusal (refusal_number Text)

-- so many bytes were read, which lie in the buffer; None where the input could not be read to its end
abbrev pub InputFits : ℕ → Option ℕ → Type 0
InputFits size (Some count) = count ≤ size
InputFits size None = Unit {0}

-- for the whole input what is said above of it; nothing but 9 where the input could not be read to its end
abbrev pub ConvertsInput : List ℕ → Option ℕ → List ℕ → Type 0
ConvertsInput buffer (Some count) output = Converts (take count buffer) output
ConvertsInput buffer None output = output ≡ print_refusal (refusal_number Text)
