-- The text format (document 01, "Text program"; document 02, P3), given by what a file prints as. A text is laid out as the format says
-- when it is the print of a file whose numbers fit, and has at most 65,536 bytes (`LaidOut`).
use Rattle.std.specs.Prelude.{◌≡◌, cond, List, [], ◌∷◌, ◌++◌, map, ℕ, zero, suc, ◌+◌, ◌/◌, ◌%◌, ◌≤◌, ◌<◌, length, ltb, eqb}
use Rattle.gates.specs.Written.{WrittenRow}

-- x in base ten, no leading zeros; 48 is the byte of the digit 0. x / 10 is below x, so x steps are enough.
unfoldable pub decimal : ℕ → ℕ → List ℕ
decimal zero x = (48 + x) ∷ []
decimal (suc steps) x = let front = decimal steps (x / 10) in cond (ltb x 10) ((48 + x) ∷ []) (front ++ ((48 + x % 10) ∷ []))

unfoldable pub digits : ℕ → List ℕ
digits x = decimal x x

-- a line: its fields parted by commas (44), ended by a line feed (10)
unfoldable pub line : List (List ℕ) → List ℕ
line [] = 10 ∷ []
line (f ∷ []) = f ++ 10 ∷ []
line (f ∷ g ∷ fs) = f ++ 44 ∷ line (g ∷ fs)

-- the letters F S A M X Z C W of the kinds 1 to 8
unfoldable pub letter_of : ℕ → ℕ
letter_of k =
    cond (eqb k 1) 70
    (cond (eqb k 2) 83
    (cond (eqb k 3) 65
    (cond (eqb k 4) 77
    (cond (eqb k 5) 88
    (cond (eqb k 6) 90
    (cond (eqb k 7) 67
    (cond (eqb k 8) 87 0)))))))

-- a T file is d, n and columns of numbers; an L file is d, n and rows; a G file, a partner's list (document 02, P3), is laid out as an L file
pub data File : Type 0 where
  tableau_file : ℕ → ℕ → List (List ℕ) → File
  list_file : ℕ → ℕ → List WrittenRow → File
  partner_file : ℕ → ℕ → List WrittenRow → File

-- the header: a letter, then d and n
abbrev pub header : ℕ → ℕ → ℕ → List ℕ
header letter d n = line ((letter ∷ []) ∷ digits d ∷ digits n ∷ [])

abbrev pub column_line : List ℕ → List ℕ
column_line xs = line (map digits xs)

-- letter, first, second, power
abbrev pub row_line : WrittenRow → List ℕ
row_line r = line ((letter_of r.kind ∷ []) ∷ digits r.first ∷ digits r.second ∷ digits r.power ∷ [])

-- the lists that f gives, one after the other
unfoldable pub concatenated : {A : Type 0} → (A → List ℕ) → List A → List ℕ
concatenated f [] = []
concatenated f (x ∷ xs) = f x ++ concatenated f xs

-- T is 84, L is 76, G is 71
abbrev pub print_file : File → List ℕ
print_file (tableau_file d n columns) = header 84 d n ++ concatenated column_line columns
print_file (list_file d n rows) = header 76 d n ++ concatenated row_line rows
print_file (partner_file d n rows) = header 71 d n ++ concatenated row_line rows

-- a refusal: R (82) and its number
abbrev pub print_refusal : ℕ → List ℕ
print_refusal k = line ((82 ∷ []) ∷ digits k ∷ [])

-- numbers are at most 65,535, a line has a field, a row's kind is one that has a letter
unfoldable pub Every : {A : Type 0} → (A → Type 0) → List A → Type 0
Every P [] = Unit {0}
Every P (x ∷ xs) = P x × Every P xs

abbrev pub Fits : ℕ → Type 0
Fits x = x ≤ 65535

abbrev pub ColumnFits : List ℕ → Type 0
ColumnFits xs = (0 < length xs) × Every Fits xs

abbrev pub KindFits : ℕ → Type 0
KindFits kind = (1 ≤ kind) × (kind ≤ 8)

abbrev pub RowFits : WrittenRow → Type 0
RowFits r = KindFits r.kind × (Fits r.first × (Fits r.second × Fits r.power))

abbrev pub FileFits : File → Type 0
FileFits (tableau_file d n columns) = (Fits d × Fits n) × Every ColumnFits columns
FileFits (list_file d n rows) = (Fits d × Fits n) × Every RowFits rows
FileFits (partner_file d n rows) = (Fits d × Fits n) × Every RowFits rows

abbrev pub LaidOut : List ℕ → File → Type 0
LaidOut text f = (length text ≤ 65536) × (FileFits f × (text ≡ print_file f))
