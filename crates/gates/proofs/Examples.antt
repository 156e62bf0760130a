-- Examples by computing. Document 01's text example, d = 4 and n = 2: the rows F,1,0,1 and A,1,2,1 and Z,2,0,3 in bytes, and what they make of each unit Pauli.
use mathlib.Core.Path.{◌≡◌, refl}
use mathlib.Core.List.{List, [], ◌∷◌, map}
use mathlib.Core.Bool.{true, false}
use Prim.Native.Nat.{ℕ}
use lib.ListN.{replicate}
use Rattle.arith.specs.Residues.{neg}
use Rattle.arith.specs.Bytes.{tab, number_at}
use Rattle.arith.specs.Gcd.{gcd, euclid}
use Rattle.pauli.specs.Pauli.{Pauli, unit}
use Rattle.gates.specs.Row.{F, S, A, X, Z, C, W, run}
use Rattle.gates.specs.Written.{WrittenRow, rows_of, list_rows, meant, legal_row, all_rows, all_legal_rows}
use Rattle.gates.specs.Ticks.{largest, tick_of, after_row, row_ticks, last_ticks, ticks, unused}
use Rattle.gates.specs.Load.{mixed, draw, RowDraws, row_draws, unit_from, drawn_row, load_rows}
use Rattle.gates.specs.Calls.{ticks_of}

abbrev bytes : List ℕ
bytes = 1 ∷ 0 ∷ 1 ∷ 0 ∷ 0 ∷ 0 ∷ 1 ∷ 0 ∷ 3 ∷ 0 ∷ 1 ∷ 0 ∷ 2 ∷ 0 ∷ 1 ∷ 0 ∷ 6 ∷ 0 ∷ 2 ∷ 0 ∷ 0 ∷ 0 ∷ 3 ∷ 0 ∷ []

-- phase, v1, v2, w1, w2
abbrev column : ℕ → ℕ → ℕ → ℕ → ℕ → Pauli
column h v₁ v₂ w₁ w₂ = record { phase = h; v = v₁ ∷ v₂ ∷ []; w = w₁ ∷ w₂ ∷ [] }

pub record Example : Type 0 where
  pub rows : rows_of bytes ≡ F 0 1 ∷ A 0 1 1 ∷ Z 1 3 ∷ []
  pub legal : all_legal_rows 4 2 (list_rows bytes) ≡ true
  pub column_1 : run 4 (rows_of bytes) (unit 2 0) ≡ column 0 0 0 1 0
  pub column_2 : run 4 (rows_of bytes) (unit 2 1) ≡ column 6 0 1 0 0
  pub column_3 : run 4 (rows_of bytes) (unit 2 2) ≡ column 2 3 3 0 0
  pub column_4 : run 4 (rows_of bytes) (unit 2 3) ≡ column 0 0 0 3 1
  pub ticks : ticks_of bytes ≡ 3

pub example : Example
unfolding tab number_at meant legal_row all_rows neg gcd euclid largest tick_of after_row row_ticks ticks
example = record { rows = refl; legal = refl; column_1 = refl; column_2 = refl; column_3 = refl; column_4 = refl; ticks = refl }

-- ---- the edges of what is legal, d = 4 and n = 2: kind, first qudit, second qudit, power
abbrev row : ℕ → ℕ → ℕ → ℕ → WrittenRow
row kind i j k = record { kind = kind; first = i; second = j; power = k }

pub highest_powers : all_legal_rows 4 2 (row 1 1 0 3 ∷ row 2 2 0 7 ∷ row 3 1 2 3 ∷ row 4 1 0 3 ∷ row 5 1 0 3 ∷ row 6 2 0 3 ∷ row 7 2 1 3 ∷ row 8 1 2 1 ∷ []) ≡ true
unfolding legal_row all_rows gcd euclid
highest_powers = refl

-- a power past those, a power of 0, no unit, no such kind, no such first qudit, a second one where there is none, none where there must be, the first again, past n;
-- and of C and W: a power past the highest, no second qudit, the first again
pub not_legal : map (legal_row 4 2)
    (row 1 1 0 4 ∷ row 2 1 0 8 ∷ row 3 1 2 4 ∷ row 5 1 0 4 ∷ row 1 1 0 0 ∷ row 4 1 0 2 ∷ row 0 1 0 1 ∷ row 9 1 0 1 ∷ row 1 0 0 1 ∷ row 1 3 0 1 ∷ row 1 1 2 1 ∷ row 3 1 0 1 ∷ row 3 1 1 1 ∷ row 3 1 3 1
    ∷ row 7 1 2 4 ∷ row 7 1 0 1 ∷ row 7 1 1 1 ∷ row 8 1 2 2 ∷ row 8 1 2 0 ∷ row 8 1 0 1 ∷ row 8 2 2 1 ∷ [])
    ≡ replicate 21 false
unfolding legal_row gcd euclid
not_legal = refl

-- ---- ticks (document 02, P2)
-- two F rows on qudits 1 and 2 take 1 tick, on the same qudit 2; none takes 0
pub two_rows : (ticks (F 0 1 ∷ F 1 1 ∷ []) ≡ 1) × ((ticks (F 0 1 ∷ F 0 1 ∷ []) ≡ 2) × (ticks [] ≡ 0))
unfolding largest tick_of after_row row_ticks ticks
two_rows = (refl, (refl, refl))

-- A waits for both of its qudits and holds both, X and Z fill ticks that their qudits have left, and the last row's tick isn't the highest
pub overlapping : row_ticks unused (F 0 1 ∷ A 0 1 1 ∷ X 2 1 ∷ A 1 2 1 ∷ Z 3 1 ∷ S 0 1 ∷ Z 3 1 ∷ []) ≡ 1 ∷ 2 ∷ 1 ∷ 3 ∷ 1 ∷ 3 ∷ 2 ∷ []
unfolding largest tick_of after_row row_ticks
overlapping = refl

pub last_of_four : tab (last_ticks unused (F 0 1 ∷ A 0 1 1 ∷ X 2 1 ∷ A 1 2 1 ∷ Z 3 1 ∷ S 0 1 ∷ Z 3 1 ∷ [])) 4 ≡ 3 ∷ 3 ∷ 3 ∷ 2 ∷ []
unfolding tab largest tick_of after_row last_ticks
last_of_four = refl

-- C and W hold both of their qudits
pub of_c_and_w : row_ticks unused (C 0 1 1 ∷ F 1 1 ∷ F 0 1 ∷ W 1 2 ∷ Z 2 1 ∷ []) ≡ 1 ∷ 2 ∷ 2 ∷ 3 ∷ 4 ∷ []
unfolding largest tick_of after_row row_ticks
of_c_and_w = refl

-- A from 1 to 2 and from 3 to 4 run at once; from 1 to 2 and from 2 to 3 don't
pub two_pairs : (ticks (A 0 1 1 ∷ A 2 3 1 ∷ []) ≡ 1) × (ticks (A 0 1 1 ∷ A 1 2 1 ∷ []) ≡ 2)
unfolding largest tick_of after_row row_ticks ticks
two_pairs = (refl, refl)

-- ---- a load (document 02, P5)
-- the four draws of the first row, and the state that they leave, from the seeds 0, 1 and 2^64 − 1
abbrev draws : ℕ → ℕ → ℕ → ℕ → ℕ → RowDraws
draws a b c e s = record { kind = a; first = b; second = c; power = e; state = s }

pub record FirstDraws : Type 0 where
  pub of_zero : row_draws 0 ≡ draws 0x460BC56C0B801029 0xAC178ADC5F00205B 0xA21C5B2A237E76D8 0x582F15BAB60040B7 0x78DDE6E5FD29F054
  pub of_one : row_draws 1 ≡ draws 0x460BC56C1380102A 0xAC178ADC5700205A 0xA21C5B29DB7E76A0 0x582F15BABE0040B6 0x78DDE6E5FD29F055
  pub of_last : row_draws 0xFFFFFFFFFFFFFFFF ≡ draws 0x460BC56C03801028 0xAC178ADC47002058 0xA21C5B2A2B7E76D9 0x582F15BA8E0040B0 0x78DDE6E5FD29F053

pub first_draws : FirstDraws
unfolding mixed draw row_draws
first_draws = record { of_zero = refl; of_one = refl; of_last = refl }

-- at d = 6, three qudits: an M power that rises from 2 to 5, and an A row whose second qudit is raised; and one qudit
pub first_rows : load_rows 6 3 0 6 ≡ row 4 1 0 5 ∷ row 4 1 0 1 ∷ row 3 1 2 2 ∷ row 2 3 0 5 ∷ row 3 1 2 4 ∷ row 6 2 0 2 ∷ []
unfolding mixed draw row_draws unit_from gcd euclid drawn_row load_rows
first_rows = refl

pub on_one_qudit : load_rows 6 1 0 4 ≡ row 4 1 0 5 ∷ row 4 1 0 1 ∷ row 1 1 0 3 ∷ row 2 1 0 5 ∷ []
unfolding mixed draw row_draws unit_from gcd euclid drawn_row load_rows
on_one_qudit = refl
