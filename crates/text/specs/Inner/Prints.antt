-- What the printer writes.
use Rattle.std.specs.Prelude.{◌≡◌, List, ℕ, ◌+◌, ◌*◌, ◌/◌, length}
use Rattle.std.proofs.lemmas.List.Edits.{sets}
use Rattle.arith.specs.Bytes.{tab, number_at, numbers_at, front}
use Rattle.gates.specs.Written.{row_at}
use Rattle.text.specs.Format.{File, tableau_file, list_file}

-- `text` is written from position `at` of `out` on, and `next` is the position after it
pub record PutsText (out : List ℕ) (at : ℕ) (text : List ℕ) (next : ℕ) (after : List ℕ) : Type 0 where
  pub ends : next ≡ at + length text
  pub holds : after ≡ sets out at text

-- `text` is printed at the front of an output, whose later bytes don't change, and r is its length
pub record Prints (text old : List ℕ) (r : ℕ) (new : List ℕ) : Type 0 where
  pub counts : r ≡ length text
  pub fronts : new ≡ front text old

-- the numbers of the bytes
abbrev pub all_numbers : List ℕ → List ℕ
all_numbers b = tab (number_at b) (length b / 2)

-- `count` columns of m numbers each; a tableau's 2n columns of 1 + 2n numbers
abbrev pub columns_at : List ℕ → ℕ → ℕ → List (List ℕ)
columns_at b m count = tab (λ i. numbers_at b (i * m) m) count

abbrev pub tableau_file_of : ℕ → ℕ → List ℕ → File
tableau_file_of d n b = tableau_file d n (columns_at b (1 + 2 * n) (2 * n))

-- the first `count` rows
abbrev pub list_file_of : ℕ → ℕ → List ℕ → ℕ → File
list_file_of d n b count = list_file d n (tab (row_at b) count)
