-- What the program does with a reader whose bytes are known, and with a writer. (Of standard input and output nothing is known.)
use Rattle.std.specs.Prelude.{◌≡◌, ◌⊎◌, Option, None, Some, ℕ, ◌<◌, List, length, take}
use Rattle.std.specs.Io.KnownBytes.{Consumes, IsAtEnd}
use Rattle.arith.specs.Refusals.{refusal_number}
use Rattle.arith.specs.declared.checks.Refusal.TheVariants.{Text}
use Rattle.text.specs.Format.{print_refusal}
use Rattle.text.specs.Convert.{Converts}

-- what was read stands at the buffer's front: all that the reader had, or as much as the buffer holds; None where a read failed
abbrev pub ReadIn : Option (List ℕ) → Option (List ℕ) → Option ℕ → List ℕ → Type 0
ReadIn old new (Some count) buffer = Consumes old new (take count buffer) × (count < length buffer → IsAtEnd new)
ReadIn old new None buffer = Unit {0}

-- what is written for the bytes that the reader had: what is said of them, or 9 alone where a read failed
abbrev pub WrittenFor : List ℕ → List ℕ → Type 0
WrittenFor text output = Converts text output ⊎ (output ≡ print_refusal (refusal_number Text))
