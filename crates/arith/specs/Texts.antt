-- The text of each refusal, as bytes.
use Rattle.std.specs.Prelude.{ℕ, List, codes}
use Rattle.arith.specs.declared.checks.Refusal.{Refusal}
use Rattle.arith.specs.declared.checks.Refusal.TheVariants as refusal

-- what a refusal prints
abbrev pub refusal_text : Refusal → List ℕ
refusal_text refusal.Dimension = codes "the dimension is below 2 or above 1,024"
refusal_text refusal.Width = codes "the number of qudits is 0 or above 16"
refusal_text refusal.Length = codes "an input is not as long as its layout says"
refusal_text refusal.Room = codes "an output is too short"
refusal_text refusal.Range = codes "a number is out of range"
refusal_text refusal.Row = codes "a row is not legal"
refusal_text refusal.Pairing = codes "a commutation number of two columns is wrong"
refusal_text refusal.Parity = codes "a column's sum is odd"
refusal_text refusal.Text = codes "a line breaks the layout"
