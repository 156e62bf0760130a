-- Which list is handed back: that is free (document 01, "Synthesis"), but it is a function of d, n and the tableau. So what the output held before makes no
-- difference to it. Which function it is, `synthesised` of Reduce, need not be read to believe this.
use Rattle.std.specs.Prelude.{◌≡◌, List, map, ℕ}
use Rattle.arith.specs.declared.checks.Answer.{Answer}
use Rattle.pauli.specs.Pauli.{Pauli}
use Rattle.gates.specs.Written.{written, encode_rows}
use Rattle.synthesis.specs.Inner.Reduce.{synthesised}
use Rattle.synthesis.specs.Demand3.{handed}

-- the list's bytes
abbrev pub list_of : ℕ → ℕ → List Pauli → List ℕ
list_of d n t = encode_rows (map written (synthesised d n t))

-- an accepted call with the tableau t hands back that list
pub record Chosen (d n : ℕ) (t : List Pauli) (new : List ℕ) (a : Answer) : Type 0 where
  pub list : a.number ≡ 0 → handed a.value new ≡ list_of d n t
