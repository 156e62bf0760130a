-- What to expect of the list that synthesis makes of a sound tableau: how many rows, how many of them on two qudits, of which kinds, and none that does nothing. Which list is made is free: no
-- public promise speaks of it.
use Rattle.std.specs.Prelude.{cond, List, [], ◌∷◌, ◌≢◌, ◌⊎◌, ◌≡◌, ℕ, ◌+◌, ◌*◌, ◌≤◌, ◌<◌, length, eqb}
use Rattle.pauli.specs.Pauli.{Pauli}
use Rattle.gates.specs.Row.{Row, F, S, A, M, X, Z, C, W}
use Rattle.tableau.specs.Tableau.{units}

-- a number for each row, added up
abbrev pub weigh : (Row → ℕ) → List Row → ℕ
weigh w [] = 0
weigh w (r ∷ rs) = w r + weigh w rs

-- a number for each A row by its qudits, another one for each C and W row by theirs, and 0 for any other row
abbrev pub on_pair : (ℕ → ℕ → ℕ) → (ℕ → ℕ → ℕ) → Row → ℕ
on_pair f g (F i k) = 0
on_pair f g (S i k) = 0
on_pair f g (A i j k) = f i j
on_pair f g (M i k) = 0
on_pair f g (X i k) = 0
on_pair f g (Z i k) = 0
on_pair f g (C i j k) = g i j
on_pair f g (W i j) = g i j

-- the number of rows on two qudits
abbrev pub count_pairs : List Row → ℕ
count_pairs rows = weigh (on_pair (λ i j. 1) (λ i j. 1)) rows

-- the number of C and W rows
abbrev pub count_cw : List Row → ℕ
count_cw rows = weigh (on_pair (λ i j. 0) (λ i j. 1)) rows

-- 1 where i is p and j is q
abbrev pub both : ℕ → ℕ → ℕ → ℕ → ℕ
both p q i j = cond (eqb i p) (cond (eqb j q) 1 0) 0

-- 1 where i and j are p and q, in either order (p isn't q)
abbrev pub between : ℕ → ℕ → ℕ → ℕ → ℕ
between p q i j = both p q i j + both q p i j

-- the number of rows on the qudits p and q
abbrev pub count_between : ℕ → ℕ → List Row → ℕ
count_between p q rows = weigh (on_pair (between p q) (between p q)) rows

-- a row isn't F with power 2 (which does nothing for d = 2), S with power d (which does nothing for an odd d), M with power 1, nor A, X, Z or C with power 0 (which do
-- nothing for any d)
abbrev pub Busy : ℕ → Row → Type 0
Busy d (F i k) = k ≢ 2
Busy d (S i k) = k ≢ d
Busy d (A i j k) = k ≢ 0
Busy d (M i k) = k ≢ 1
Busy d (X i k) = k ≢ 0
Busy d (Z i k) = k ≢ 0
Busy d (C i j k) = k ≢ 0
Busy d (W i j) = Unit {0}

-- every row of a list
pub data AllBusy (d : ℕ) : List Row → Type 0 where
  nil : AllBusy d []
  cons : {r : Row} {rs : List Row} → Busy d r → AllBusy d rs → AllBusy d (r ∷ rs)

-- d is a prime number
pub record Prime (d : ℕ) : Type 0 where
  pub large : 1 < d
  pub only : (x y : ℕ) → d ≡ x * y → (x ≡ 1) ⊎ (y ≡ 1)

pub record Expected (d n : ℕ) (t : List Pauli) (rows : List Row) : Type 0 where
  -- at most 9n(n + 1)/2 rows, and n(5n + 9)/2 where d is prime
  pub short : 2 * length rows ≤ 9 * (n * n) + 9 * n
  pub shorter : Prime d → 2 * length rows ≤ 5 * (n * n) + 9 * n
  -- at most 3n(n − 1)/2 of them are on two qudits, and at most 3 on any two given ones
  pub few : 2 * count_pairs rows + 3 * n ≤ 3 * (n * n)
  pub three : (p q : ℕ) → p < q → count_between p q rows ≤ 3
  -- none is C or W
  pub six : count_cw rows ≡ 0
  -- none does nothing
  pub busy : AllBusy d rows
  -- the identity takes no row
  pub empty : t ≡ units n → rows ≡ []
