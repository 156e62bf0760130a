-- The refusals of document 01's table: each is its number where its condition holds, else 0.
use Rattle.std.specs.Prelude.{Result, Ok, Err, List, Bool, ◌&&◌, cond, ℕ, zero, suc, ◌/◌, ◌%◌, ◌≤◌, leb, ltb, eqb}
use Rattle.arith.specs.declared.checks.Refusal.{Refusal}
use Rattle.arith.specs.declared.checks.Refusal.TheVariants as refusal

-- document 01's number for each refusal: the one definition of it, which every promise uses
abbrev pub refusal_number : Refusal → ℕ
refusal_number refusal.Dimension = 1
refusal_number refusal.Width = 2
refusal_number refusal.Length = 3
refusal_number refusal.Room = 4
refusal_number refusal.Range = 5
refusal_number refusal.Row = 6
refusal_number refusal.Pairing = 7
refusal_number refusal.Parity = 8
refusal_number refusal.Text = 9

-- the number of what a check or a call answers: 0 where nothing is refused
abbrev pub number_of : {A : Type 0} → Result A Refusal → ℕ
number_of (Ok a) = 0
number_of (Err k) = refusal_number k

-- the number of a refusal, unless the test holds
abbrev pub unless_holds : Refusal → Bool → ℕ
unless_holds k test = cond test 0 (refusal_number k)

-- 1, dimension: d below 2 or above 1,024
unfoldable pub dimension_of : ℕ → ℕ
dimension_of d = unless_holds refusal.Dimension (leb 2 d && leb d 1024)

-- 2, width: n is 0 or above 16
unfoldable pub width_of : ℕ → ℕ
width_of n = unless_holds refusal.Width (leb 1 n && leb n 16)

-- 3, length: an input isn't as long as its layout says
unfoldable pub size_of : ℕ → ℕ → ℕ
size_of want have = unless_holds refusal.Length (eqb have want)

-- 3, length: an input of `have` bytes, which holds items of `one` bytes each, isn't whole items or has more than `most` of them
unfoldable pub whole_of : ℕ → ℕ → ℕ → ℕ
whole_of one most have = unless_holds refusal.Length (eqb (have % one) 0 && leb (have / one) most)

-- 3, length: a list isn't whole rows or exceeds 4,096
unfoldable pub list_size_of : ℕ → ℕ
list_size_of have = whole_of 8 4096 have

-- 4, room: an output is shorter than the full answer
unfoldable pub room_of : ℕ → ℕ → ℕ
room_of want have = unless_holds refusal.Room (leb want have)

-- 5, range: a v, w or residue is d or more, or a phase 2d or more; `bound` is d or 2d
unfoldable pub range_of : ℕ → ℕ → ℕ
range_of bound x = unless_holds refusal.Range (ltb x bound)

-- 6, row: a row isn't legal
unfoldable pub row_of : Bool → ℕ
row_of legal = unless_holds refusal.Row legal

-- 7, pairing: a commutation number of two columns is wrong
unfoldable pub pairing_of : Bool → ℕ
pairing_of holds = unless_holds refusal.Pairing holds

-- 8, parity: a column's sum is odd (tested after 7, so pairing holds)
unfoldable pub parity_of : Bool → ℕ
parity_of holds = unless_holds refusal.Parity holds

-- ---- the first refusal in the order of the table
abbrev pub or_else : ℕ → ℕ → ℕ
or_else zero y = y
or_else (suc x) y = suc x

-- 1, then 2
unfoldable pub given_of : ℕ → ℕ → ℕ
given_of d n = or_else (dimension_of d) (width_of n)

-- ---- what a refused call hands back: zero for every other result, and no output byte changed
abbrev pub unless : ℕ → ℕ → ℕ
unless zero x = x
unless (suc k) x = 0

abbrev pub kept : ℕ → List ℕ → List ℕ → List ℕ
kept zero old new = new
kept (suc k) old new = old

-- ---- what holds once 1 is past, and once 2 is past
pub record Dimension (d : ℕ) : Type 0 where
  pub d_low : 2 ≤ d
  pub d_high : d ≤ 1024

pub record Width (n : ℕ) : Type 0 where
  pub n_low : 1 ≤ n
  pub n_high : n ≤ 16
