-- The greatest common divisor by Euclid's recursion, with gcd 0 d = d, so gcd 0 0 = 0 (document 01, "Residues").
use Rattle.std.specs.Prelude.{ℕ, zero, suc, ◌%◌}

-- n bounds the calls: the first number falls at each, so `gcd` starts at n = a
unfoldable pub euclid : ℕ → ℕ → ℕ → ℕ
euclid zero a b = b
euclid (suc n) zero b = b
euclid (suc n) (suc a) b = euclid n (b % suc a) (suc a)

unfoldable pub gcd : ℕ → ℕ → ℕ
unfolding euclid
gcd a b = euclid a a b
