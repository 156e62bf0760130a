-- Document 01's worked input and output, the ends of a number's range, byte by byte, and a partner's list.
use mathlib.Core.Path.{◌≡◌, refl}
use mathlib.Core.List.{List, [], ◌∷◌, map}
use Prim.Native.Nat.{ℕ}
use Rattle.arith.specs.Refusals.{dimension_of, width_of, given_of, row_of}
use Rattle.arith.specs.Residues.{neg}
use Rattle.arith.specs.Gcd.{gcd, euclid}
use Rattle.arith.specs.Units.{first_below, inverse_of}
use Rattle.pauli.specs.Bytes.{numbers_of}
use Rattle.gates.specs.Written.{WrittenRow, meant, legal_row, all_rows}
use Rattle.tableau.specs.Tableau.{tableau_of}
use Rattle.text.specs.Format.{decimal, digits, line, letter_of, concatenated, tableau_file, list_file, partner_file, print_file, print_refusal}
use Rattle.text.specs.Partner.{legal_partner, our_power, translated}
use Rattle.text.specs.Convert.{row_count_of, list_refusal, partner_refusal}

abbrev row : ℕ → ℕ → ℕ → ℕ → WrittenRow
row k a b p = record { kind = k; first = a; second = b; power = p }

-- F,1,0,1 then A,1,2,1 then Z,2,0,3 for d = 4 and n = 2
pub the_input : print_file (list_file 4 2 (row 1 1 0 1 ∷ row 3 1 2 1 ∷ row 6 2 0 3 ∷ []))
    ≡ 76 ∷ 44 ∷ 52 ∷ 44 ∷ 50 ∷ 10 ∷ 70 ∷ 44 ∷ 49 ∷ 44 ∷ 48 ∷ 44 ∷ 49 ∷ 10 ∷ 65 ∷ 44 ∷ 49 ∷ 44 ∷ 50 ∷ 44 ∷ 49 ∷ 10 ∷ 90 ∷ 44 ∷ 50 ∷ 44 ∷ 48 ∷ 44 ∷ 51 ∷ 10 ∷ []
unfolding concatenated line digits decimal letter_of
the_input = refl

pub the_output : print_file (tableau_file 4 2 ((0 ∷ 0 ∷ 0 ∷ 1 ∷ 0 ∷ []) ∷ (6 ∷ 0 ∷ 1 ∷ 0 ∷ 0 ∷ []) ∷ (2 ∷ 3 ∷ 3 ∷ 0 ∷ 0 ∷ []) ∷ (0 ∷ 0 ∷ 0 ∷ 3 ∷ 1 ∷ []) ∷ []))
    ≡ 84 ∷ 44 ∷ 52 ∷ 44 ∷ 50 ∷ 10 ∷ 48 ∷ 44 ∷ 48 ∷ 44 ∷ 48 ∷ 44 ∷ 49 ∷ 44 ∷ 48 ∷ 10 ∷ 54 ∷ 44 ∷ 48 ∷ 44 ∷ 49 ∷ 44 ∷ 48 ∷ 44 ∷ 48 ∷ 10 ∷ 50 ∷ 44 ∷ 51 ∷ 44 ∷ 51 ∷ 44 ∷ 48 ∷ 44 ∷ 48 ∷ 10 ∷ 48 ∷ 44 ∷ 48 ∷ 44 ∷ 48 ∷ 44 ∷ 51 ∷ 44 ∷ 49 ∷ 10 ∷ []
unfolding concatenated line digits decimal
the_output = refl

pub nought : digits 0 ≡ 48 ∷ []
unfolding digits decimal
nought = refl

pub largest : digits 65535 ≡ 54 ∷ 53 ∷ 53 ∷ 51 ∷ 53 ∷ []
unfolding digits decimal
largest = refl

pub refusal_9 : print_refusal 9 ≡ 82 ∷ 44 ∷ 57 ∷ 10 ∷ []
unfolding line digits decimal
refusal_9 = refl

-- ---- a partner's list (document 02, P3), d = 5 and n = 2: F,1,0,1 then A,1,2,2 then M,1,0,2 then X,2,0,1 then Z,2,0,1 then C,1,2,3 then W,1,2,1
abbrev partner_rows : List WrittenRow
partner_rows = row 1 1 0 1 ∷ row 3 1 2 2 ∷ row 4 1 0 2 ∷ row 5 2 0 1 ∷ row 6 2 0 1 ∷ row 7 1 2 3 ∷ row 8 1 2 1 ∷ []

pub partner_input : print_file (partner_file 5 2 partner_rows)
    ≡ 71 ∷ 44 ∷ 53 ∷ 44 ∷ 50 ∷ 10 ∷ 70 ∷ 44 ∷ 49 ∷ 44 ∷ 48 ∷ 44 ∷ 49 ∷ 10 ∷ 65 ∷ 44 ∷ 49 ∷ 44 ∷ 50 ∷ 44 ∷ 50 ∷ 10 ∷ 77 ∷ 44 ∷ 49 ∷ 44 ∷ 48 ∷ 44 ∷ 50 ∷ 10 ∷ 88 ∷ 44 ∷ 50 ∷ 44 ∷ 48 ∷ 44 ∷ 49 ∷ 10 ∷ 90 ∷ 44 ∷ 50 ∷ 44 ∷ 48 ∷ 44 ∷ 49 ∷ 10 ∷ 67 ∷ 44 ∷ 49 ∷ 44 ∷ 50 ∷ 44 ∷ 51 ∷ 10 ∷ 87 ∷ 44 ∷ 49 ∷ 44 ∷ 50 ∷ 44 ∷ 49 ∷ 10 ∷ []
unfolding concatenated line digits decimal letter_of
partner_input = refl

-- in document 01's convention A of power 2 has power 3, M of power 2 has power 3, and X of power 1 has power 4
pub partner_translated : map (translated 5) partner_rows ≡ row 1 1 0 1 ∷ row 3 1 2 3 ∷ row 4 1 0 3 ∷ row 5 2 0 4 ∷ row 6 2 0 1 ∷ row 7 1 2 3 ∷ row 8 1 2 1 ∷ []
unfolding translated our_power inverse_of first_below
partner_translated = refl

-- no row of it is refused, and it prints the tableau of these rows
pub partner_accepted : partner_refusal 5 2 partner_rows ≡ 0
unfolding dimension_of width_of given_of row_count_of row_of all_rows legal_row legal_partner gcd euclid
partner_accepted = refl

pub partner_tableau : map numbers_of (tableau_of 5 2 (map meant (map (translated 5) partner_rows))) ≡ (0 ∷ 0 ∷ 0 ∷ 0 ∷ 2 ∷ []) ∷ (2 ∷ 1 ∷ 0 ∷ 0 ∷ 3 ∷ []) ∷ (8 ∷ 2 ∷ 2 ∷ 1 ∷ 1 ∷ []) ∷ (2 ∷ 0 ∷ 0 ∷ 1 ∷ 4 ∷ []) ∷ []
unfolding translated our_power inverse_of first_below meant neg
partner_tableau = refl

-- S is taken in an L file and refused in a G file
pub partner_s : (list_refusal 5 2 (row 2 1 0 1 ∷ []) ≡ 0) × (partner_refusal 5 2 (row 2 1 0 1 ∷ []) ≡ 6)
unfolding dimension_of width_of given_of row_count_of row_of all_rows legal_row legal_partner
partner_s = (refl, refl)
