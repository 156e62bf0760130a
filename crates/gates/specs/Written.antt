-- Gate rows as they are written in bytes (document 01, "Bytes" and "Gate rows"; kinds 7 and 8, document 02, P3): kind, first qudit, second qudit (0 where the kind has one), power.
-- Qudits count from 1 here. What depends on the kind is a table with a line for each; another kind adds a line.
use Rattle.std.specs.Prelude.{List, [], ◌∷◌, ◌++◌, map, Bool, true, not, ◌&&◌, ◌||◌, cond, ℕ, zero, suc, ◌+◌, ◌*◌, ◌-◌, ◌/◌, length, get_or, leb, eqb}
use Rattle.arith.specs.Gcd.{gcd}
use Rattle.arith.specs.Bytes.{tab, number_at, bytes_of}
use Rattle.gates.specs.Row.{Row, F, S, A, M, X, Z, C, W}

pub record WrittenRow : Type 0 where
  pub kind : ℕ
  pub first : ℕ
  pub second : ℕ
  pub power : ℕ

-- a row with another power
abbrev pub with_power : WrittenRow → ℕ → WrittenRow
with_power w k = record { kind = w.kind; first = w.first; second = w.second; power = k }

-- ---- what a row is written as: a kind on one qudit, and on two
abbrev pub on_one : ℕ → ℕ → ℕ → WrittenRow
on_one kind i k = record { kind = kind; first = i + 1; second = 0; power = k }

abbrev pub on_two : ℕ → ℕ → ℕ → ℕ → WrittenRow
on_two kind i j k = record { kind = kind; first = i + 1; second = j + 1; power = k }

abbrev pub written : Row → WrittenRow
written (F i k) = on_one 1 i k
written (S i k) = on_one 2 i k
written (A i j k) = on_two 3 i j k
written (M i k) = on_one 4 i k
written (X i k) = on_one 5 i k
written (Z i k) = on_one 6 i k
written (C i j k) = on_two 7 i j k
written (W i j) = on_two 8 i j 1

-- ---- what a written row means
-- the line of a kind in a table whose lines are the kinds from 1 on; `other` where there is no such kind
abbrev pub of_kind : {A : Type 0} → List A → ℕ → A → A
of_kind lines zero other = other
of_kind lines (suc kind) other = get_or lines kind other

-- the row of a kind with power k, on the qudits i and j counted from 0. (What no kind has is never asked: such a row isn't legal.)
abbrev pub row_of_kind : ℕ → ℕ → ℕ → ℕ → Row
row_of_kind kind i j k = of_kind (F i k ∷ S i k ∷ A i j k ∷ M i k ∷ X i k ∷ Z i k ∷ C i j k ∷ W i j ∷ []) kind (F i k)

unfoldable pub meant : WrittenRow → Row
meant w = row_of_kind w.kind (w.first - 1) (w.second - 1) w.power

-- ---- which rows are legal
-- low to high
abbrev pub between : ℕ → ℕ → ℕ → Bool
between low high x = leb low x && leb x high

-- the highest legal power of F, S, A, M, X, Z, C and W; no power of any other kind is legal
abbrev pub highest : ℕ → ℕ → ℕ
highest d kind = of_kind (3 ∷ (2 * d - 1) ∷ (d - 1) ∷ (d - 1) ∷ (d - 1) ∷ (d - 1) ∷ (d - 1) ∷ 1 ∷ []) kind 0

-- a legal power: 1 to the highest, for M a unit
abbrev pub legal_power : ℕ → ℕ → ℕ → Bool
legal_power d kind k = between 1 (highest d kind) k && cond (eqb kind 4) (eqb (gcd k d) 1) true

-- the kinds that take a second qudit: A, C and W
abbrev pub takes_two : ℕ → Bool
takes_two kind = eqb kind 3 || (eqb kind 7 || eqb kind 8)

-- a legal second qudit j beside the first one i: 0, or for A, C and W 1 to n and not i
abbrev pub legal_second : ℕ → ℕ → ℕ → ℕ → Bool
legal_second n kind i j = cond (takes_two kind) (between 1 n j && not (eqb j i)) (eqb j 0)

-- its kind is 1 to 8, its power is legal, i is 1 to n, and j is 0, or for A, C and W is 1 to n and not i
unfoldable pub legal_row : ℕ → ℕ → WrittenRow → Bool
legal_row d n w = legal_power d w.kind w.power && (between 1 n w.first && legal_second n w.kind w.first w.second)

-- whether every row passes a test, and whether every row is legal
unfoldable pub all_rows : (WrittenRow → Bool) → List WrittenRow → Bool
all_rows test [] = true
all_rows test (w ∷ ws) = test w && all_rows test ws

abbrev pub all_legal_rows : ℕ → ℕ → List WrittenRow → Bool
all_legal_rows d n ws = all_rows (legal_row d n) ws

-- ---- rows in bytes, 8 bytes a row
-- row r, counted from 0
abbrev pub row_at : List ℕ → ℕ → WrittenRow
row_at b r = record { kind = number_at b (4 * r); first = number_at b (4 * r + 1); second = number_at b (4 * r + 2); power = number_at b (4 * r + 3) }

-- the rows of a list, the first row first
abbrev pub list_rows : List ℕ → List WrittenRow
list_rows b = tab (row_at b) (length b / 8)

abbrev pub rows_of : List ℕ → List Row
rows_of b = map meant (list_rows b)

-- the bytes of rows
abbrev pub row_numbers : WrittenRow → List ℕ
row_numbers w = w.kind ∷ w.first ∷ w.second ∷ w.power ∷ []

unfoldable pub list_numbers : List WrittenRow → List ℕ
list_numbers [] = []
list_numbers (w ∷ ws) = row_numbers w ++ list_numbers ws

abbrev pub encode_rows : List WrittenRow → List ℕ
encode_rows ws = bytes_of (list_numbers ws)
