-- Units, their inverses, the least multiplier (document 01, "Residues", and document 02, P6) and quotients: each is the first number, in its order, that passes a test.
use Rattle.std.specs.Prelude.{◌≡◌, Bool, cond, ℕ, zero, suc, ◌+◌, ◌*◌, ◌-◌, ◌/◌, ◌%◌, ◌≤◌, ◌<◌, T, eqb, ltb}
use Rattle.arith.specs.Gcd.{gcd}

-- the first number from k on that passes, looking at n of them; k + n where none does
abbrev pub first_from : (ℕ → Bool) → ℕ → ℕ → ℕ
first_from test zero k = k
first_from test (suc n) k = cond (test k) k (first_from test n (suc k))

unfoldable pub first_below : (ℕ → Bool) → ℕ → ℕ
first_below test bound = first_from test bound 0

-- a unit: gcd(q, d) = 1
abbrev pub IsUnit : ℕ → ℕ → Type 0
IsUnit d q = gcd q d ≡ 1

-- q', the inverse of a unit q: the first x below d with q·x = 1 modulo d
unfoldable pub inverse_of : ℕ → ℕ → ℕ
inverse_of d q = first_below (λ x. eqb (q * x % d) 1) d

-- m fits: gcd(a + m·b, d) = gcd(gcd(a, b), d)
abbrev pub fits : ℕ → ℕ → ℕ → ℕ → Bool
fits a b d m = eqb (gcd (a + m * b) d) (gcd (gcd a b) d)

-- the candidates for m in their order, 0, 1, −1, 2, −2 and on, as residues: 0, 1, d − 1, 2, d − 2 and on. Candidate k is for k below d, so that for even d the last is d/2, which stands once
unfoldable pub candidate : ℕ → ℕ → ℕ
candidate d zero = 0
candidate d (suc k) = cond (eqb (k % 2) 0) (1 + k / 2) (d - (1 + k / 2))

-- the least multiplier of a and b: the first candidate that fits, and so the m nearest zero
unfoldable pub least_multiplier : ℕ → ℕ → ℕ → ℕ
least_multiplier d a b = candidate d (first_below (λ k. fits a b d (candidate d k)) d)

-- how far a residue is from zero: it is r steps up from 0, or d − r steps down where that is fewer
unfoldable pub distance : ℕ → ℕ → ℕ
distance d r = cond (ltb d (2 * r)) (d - r) r

-- m is the residue nearest zero that passes: none that passes is nearer, and of two as near it is the positive one, at most d/2, if that passes. No contract speaks of it: that the least
-- multiplier is the residue nearest zero that fits is a theorem (`least_nearest`, proofs/Units)
pub record Nearest (test : ℕ → Bool) (d m : ℕ) : Type 0 where
  pub passes : T (test m)
  pub below : m < d
  pub nearest : (r : ℕ) → r < d → T (test r) → distance d m ≤ distance d r
  pub positive : (r : ℕ) → 2 * r ≤ d → T (test r) → distance d m ≡ r → m ≡ r

-- b is a multiple of a modulo d: gcd(a, d) divides b
unfoldable pub divides : ℕ → ℕ → ℕ → Bool
divides d a b = eqb (b % gcd a d) 0

-- the quotient of b by a: the first c below d with c·a = b modulo d; d where there is none
unfoldable pub quotient : ℕ → ℕ → ℕ → ℕ
quotient d a b = first_below (λ c. eqb (c * a % d) (b % d)) d
