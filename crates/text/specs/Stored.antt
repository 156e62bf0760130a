-- Storing T files in place of L files (document 02, P9): what the text program prints for a list's file is a T file, which may be compared with another one, and converted later.
use Rattle.std.specs.Prelude.{◌≡◌, true, ◌↔◌, List, map, ℕ}
use Rattle.gates.specs.Written.{WrittenRow, meant, all_legal_rows}
use Rattle.tableau.specs.Comparing.{CarryAlike}
use Rattle.text.specs.Format.{list_file, LaidOut}
use Rattle.text.specs.Convert.{list_refusal, tableau_print, Converts}

-- of two L files that aren't refused, with one d and n, the T files are equal, byte for byte, exactly when the lists carry every Pauli alike
abbrev pub EqualPrints : Type 0
EqualPrints = (d n : ℕ) (xs ys : List WrittenRow) → list_refusal d n xs ≡ 0 → list_refusal d n ys ≡ 0 → (tableau_print d n xs ≡ tableau_print d n ys) ↔ CarryAlike d n (map meant xs) (map meant ys)

-- a text is an L file of legal rows, which carry every Pauli as the given rows do
pub record AnotherList (d n : ℕ) (rows : List WrittenRow) (text : List ℕ) : Type 0 where
  pub others : List WrittenRow
  pub laid : LaidOut text (list_file d n others)
  pub legal : all_legal_rows d n others ≡ true
  pub alike : CarryAlike d n (map meant others) (map meant rows)

-- what is printed for an L file that isn't refused is stored, and converted later: another L file is printed, that acts alike
abbrev pub StoredFiles : Type 0
StoredFiles = (d n : ℕ) (rows : List WrittenRow) (text stored later : List ℕ) → LaidOut text (list_file d n rows) → list_refusal d n rows ≡ 0
    → Converts text stored → Converts stored later → AnotherList d n rows later
