-- Residues modulo d and phases modulo 2·d (document 01, "Residues"): a number modulo m is its remainder x % m, and −x modulo m is `neg m x`.
use Rattle.std.specs.Prelude.{ℕ, ◌-◌, ◌%◌}

-- −x modulo m, as a number that is not negative: x + neg m x is a multiple of m
unfoldable pub neg : ℕ → ℕ → ℕ
neg m x = m - x % m
