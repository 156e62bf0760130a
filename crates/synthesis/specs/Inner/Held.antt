-- What the columns of the tableau in work stand for, however they are kept: d, n and the tableau.
use Rattle.std.specs.Prelude.{List, ℕ}
use Rattle.pauli.specs.Pauli.{Pauli}

pub record Held : Type 0 where
  pub d : ℕ
  pub n : ℕ
  pub tableau : List Pauli
