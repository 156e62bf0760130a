-- What the laws of ticks speak of (gates/proofs/Ticks, Schedules). No public contract depends on it.
use Rattle.std.specs.Prelude.{true, cond, List, [], ◌∷◌, map, ◌≡◌, ℕ, ◌≤◌, ◌<◌}
use Rattle.pauli.specs.Support.{total}
use Rattle.gates.specs.Row.{Row, uses}

-- the number of rows that qudit q takes part in
abbrev pub rows_on : ℕ → List Row → ℕ
rows_on q rs = total (map (λ r. cond (uses r q) 1 0) rs)

-- P holds of every row of a list
abbrev pub Every : (Row → Type 0) → List Row → Type 0
Every P [] = Unit {0}
Every P (r ∷ rs) = P r × Every P rs

-- no qudit is used by both rows
abbrev pub Apart : Row → Row → Type 0
Apart r s = (q : ℕ) → uses r q ≡ true → uses s q ≡ true → ⊥

-- the rows of a list are on pairwise different qudits
abbrev pub Separate : List Row → Type 0
Separate [] = Unit {0}
Separate (r ∷ rs) = Every (Apart r) rs × Separate rs

-- with a tick for each row of a list: the rows that have a qudit in common with r run after tick t
pub data After (r : Row) (t : ℕ) : List Row → List ℕ → Type 0 where
  nothing : After r t [] []
  later : {s : Row} {rs : List Row} {u : ℕ} {us : List ℕ} → ((q : ℕ) → uses r q ≡ true → uses s q ≡ true → t < u) → After r t rs us → After r t (s ∷ rs) (u ∷ us)

-- a schedule of a list: a tick for each row, 1 or later, so that rows that have a qudit in common run in the list's order, no two of them in one tick
pub data Schedule : List Row → List ℕ → Type 0 where
  empty : Schedule [] []
  starts : {r : Row} {rs : List Row} {t : ℕ} {ts : List ℕ} → 1 ≤ t → After r t rs ts → Schedule rs ts → Schedule (r ∷ rs) (t ∷ ts)

-- of two runs of ticks as long, none of the first is later than the one at its place in the second
pub data NoLater : List ℕ → List ℕ → Type 0 where
  no_ticks : NoLater [] []
  a_tick : {s t : ℕ} {ss ts : List ℕ} → s ≤ t → NoLater ss ts → NoLater (s ∷ ss) (t ∷ ts)
