-- A repeatable load (document 02, P5): the list that d, n, a seed of 64 bits and a number of rows give. It follows that request's words, and is no named generator.
-- Qudits count from 1 here, as in bytes.
use Rattle.std.specs.Prelude.{List, [], ◌∷◌, ◌&&◌, cond, ℕ, zero, suc, ◌+◌, ◌*◌, ◌-◌, ◌/◌, ◌%◌, ◌^◌, bit_xor, ltb, eqb}
use Rattle.arith.specs.Gcd.{gcd}
use Rattle.arith.specs.Units.{first_from}
use Rattle.gates.specs.Written.{WrittenRow, highest, takes_two}

-- ---- draws
-- the low 64 bits of a number
abbrev pub low_bits : ℕ → ℕ
low_bits x = x % 2 ^ 64

-- t xor t shifted right k
abbrev pub xor_right : ℕ → ℕ → ℕ
xor_right k t = bit_xor t (t / 2 ^ k)

-- t xor t shifted left k, low 64 bits kept
abbrev pub xor_left : ℕ → ℕ → ℕ
xor_left k t = bit_xor t (low_bits (t * 2 ^ k))

-- what each draw adds to the state: hexadecimal 9E3779B97F4A7C15
abbrev pub step : ℕ
step = 0x9E3779B97F4A7C15

-- a draw: its value, and the state that it leaves
pub record Draw : Type 0 where
  pub value : ℕ
  pub state : ℕ

-- the value of a draw that leaves state s: t is s xor s shifted right 30, then t xor t shifted left 27 (low 64 bits kept), then t xor t shifted right 31
unfoldable pub mixed : ℕ → ℕ
mixed s = xor_right 31 (xor_left 27 (xor_right 30 s))

-- the draw made in state s: `step` is added, wrapping at 64 bits, and the value is made of the sum
unfoldable pub draw : ℕ → Draw
draw s = let after = low_bits (s + step) in record { value = mixed after; state = after }

-- the four draws of a row, each under the name of the number that is made of it, and the state that they leave
pub record RowDraws : Type 0 where
  pub kind : ℕ
  pub first : ℕ
  pub second : ℕ
  pub power : ℕ
  pub state : ℕ

-- those made in state s, one after the other
unfoldable pub row_draws : ℕ → RowDraws
row_draws s =
    let a = draw s in
    let b = draw a.state in
    let c = draw b.state in
    let e = draw c.state in
    record { kind = a.value; first = b.value; second = c.value; power = e.value; state = e.state }

-- ---- the row that four draws make
-- kind 1 + draw mod 6; with n = 1 kind 3 becomes 1
abbrev pub drawn_kind : ℕ → ℕ → ℕ
drawn_kind n x = let kind = 1 + x % 6 in cond (eqb n 1 && eqb kind 3) 1 kind

-- first 1 + draw mod n
abbrev pub drawn_first : ℕ → ℕ → ℕ
drawn_first n x = 1 + x % n

-- j, raised by one if it isn't below first
abbrev pub raised : ℕ → ℕ → ℕ
raised first j = cond (ltb j first) j (j + 1)

-- second 1 + draw mod (n − 1), raised; one-qudit rows set it to 0 and ignore the draw. With n = 1 all rows are such, and no remainder by n − 1 is taken
abbrev pub drawn_second : ℕ → ℕ → ℕ → ℕ → ℕ
drawn_second n kind first x = cond (takes_two kind) (raised first (1 + x % (n - 1))) 0

-- k, risen by one until it is a unit: the first unit from k on
unfoldable pub unit_from : ℕ → ℕ → ℕ
unit_from d k = first_from (λ q. eqb (gcd q d) 1) (d - k) k

-- power 1 + draw mod the kind's highest power; that of M, kind 4, rises by one until it is a unit
abbrev pub drawn_power : ℕ → ℕ → ℕ → ℕ
drawn_power d kind x = let k = 1 + x % highest d kind in cond (eqb kind 4) (unit_from d k) k

-- the row
unfoldable pub drawn_row : ℕ → ℕ → RowDraws → WrittenRow
drawn_row d n x =
    let kind = drawn_kind n x.kind in
    let first = drawn_first n x.first in
    record { kind = kind; first = first; second = drawn_second n kind first x.second; power = drawn_power d kind x.power }

-- ---- the rows that a seed gives: each is made in the state that the one before leaves, the first in the seed
unfoldable pub load_rows : ℕ → ℕ → ℕ → ℕ → List WrittenRow
load_rows d n seed zero = []
load_rows d n seed (suc count) = let x = row_draws seed in drawn_row d n x ∷ load_rows d n x.state count
