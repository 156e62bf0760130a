-- Ticks of a list (document 02, P2): rows on separate qudits run in the same tick. Ticks count from 1; a qudit that no row has used yet was last used in tick 0.
-- `last` is the last tick used by each qudit so far. Qudits count from 0.
use Rattle.std.specs.Prelude.{cond, List, [], ◌∷◌, map, ℕ, ◌+◌, max}
use Rattle.gates.specs.Row.{Row, qudits_of, uses}

-- the largest of some numbers, 0 of none
unfoldable pub largest : List ℕ → ℕ
largest [] = 0
largest (x ∷ xs) = max x (largest xs)

-- a row runs in the first tick after the last one used by any of its qudits
unfoldable pub tick_of : (ℕ → ℕ) → Row → ℕ
tick_of last r = 1 + largest (map last (qudits_of r))

-- the last tick used by qudit q once the row has run as well: the row's own where it uses q
unfoldable pub after_row : (ℕ → ℕ) → Row → ℕ → ℕ
after_row last r q = cond (uses r q) (tick_of last r) (last q)

-- and once the rows of a list have run, row by row from the front
unfoldable pub last_ticks : (ℕ → ℕ) → List Row → ℕ → ℕ
last_ticks last [] = last
last_ticks last (r ∷ rs) = last_ticks (after_row last r) rs

-- the tick of each row of a list, row by row from the front
unfoldable pub row_ticks : (ℕ → ℕ) → List Row → List ℕ
row_ticks last [] = []
row_ticks last (r ∷ rs) = tick_of last r ∷ row_ticks (after_row last r) rs

-- before the first row no qudit was used
abbrev pub unused : ℕ → ℕ
unused q = 0

-- a list's ticks: the highest tick used, 0 for the empty list
unfoldable pub ticks : List Row → ℕ
ticks rs = largest (row_ticks unused rs)
