-- What a public call promises, by its refusal (a number of the table, 0 for none) and its answer.
use Rattle.std.specs.Prelude.{◌≡◌, Result, Ok, Err, List, ℕ}
use Rattle.arith.specs.Bytes.{front}
use Rattle.arith.specs.Refusals.{refusal_number, unless, kept}
use Rattle.arith.specs.declared.checks.Answer.{Answer}
use Rattle.arith.specs.declared.checks.Refusal.{Refusal}

-- what C is handed of a call with one number as its result: the refusal's number, or 0, and the result, or 0
abbrev pub answer_of : Result ℕ Refusal → Answer
answer_of (Ok x) = record { number = 0; value = x }
answer_of (Err k) = record { number = refusal_number k; value = 0 }

-- a call with one number as its result: the refusal's number, and the result, which is 0 of a refused call
pub record Answered (refusal result : ℕ) (r : Answer) : Type 0 where
  pub number : r.number ≡ refusal
  pub value : r.value ≡ unless refusal result

-- a call that writes to a lent output: the refusal's number, and the output's bytes from old to new: as they were in a refused call,
-- else the answer at the front and the later bytes as they were
pub record Written (refusal : ℕ) (answer old new : List ℕ) (r : ℕ) : Type 0 where
  pub number : r ≡ refusal
  pub out : new ≡ kept refusal old (front answer old)
