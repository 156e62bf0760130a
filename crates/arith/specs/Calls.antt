-- The public call on numbers: the least multiplier.
use Rattle.std.specs.Prelude.{ℕ}
use Rattle.arith.specs.Refusals.{or_else, dimension_of, range_of}

-- it takes d, a and b: 1, then 5 for a and for b
abbrev pub multiplier_refusal : ℕ → ℕ → ℕ → ℕ
multiplier_refusal d a b = or_else (dimension_of d) (or_else (range_of d a) (range_of d b))
