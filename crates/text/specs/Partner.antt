-- Lists by source document 002 (document 02, P3): which rows a partner may write, and what they are in document 01's convention.
use Rattle.std.specs.Prelude.{Bool, not, ◌&&◌, [], ◌∷◌, ℕ, ◌-◌, eqb}
use Rattle.arith.specs.Units.{inverse_of}
use Rattle.gates.specs.Written.{WrittenRow, with_power, of_kind, legal_row}

-- a row is judged as it is written, by document 01's rule; S, kind 2, is refused
unfoldable pub legal_partner : ℕ → ℕ → WrittenRow → Bool
legal_partner d n w = legal_row d n w && not (eqb w.kind 2)

-- the power, in document 01's convention, of F, S, A, M, X, Z, C and W of power k. A and X of power k are ours of power d − k, M is ours of the inverse of k, and the
-- others are ours. (S is in no list that is translated.)
unfoldable pub our_power : ℕ → ℕ → ℕ → ℕ
our_power d kind k = of_kind (k ∷ k ∷ (d - k) ∷ inverse_of d k ∷ (d - k) ∷ k ∷ k ∷ k ∷ []) kind k

-- the row in document 01's convention
unfoldable pub translated : ℕ → WrittenRow → WrittenRow
translated d w = with_power w (our_power d w.kind w.power)
