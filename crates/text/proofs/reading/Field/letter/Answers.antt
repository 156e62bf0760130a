-- `text::reading::Field::letter` meets its contract: the letter's kind is the field.
use Rattle.std.proofs.Common.{sym}
use Rattle.text.proofs.Letters.{letter_kind}
use Rattle.text.proofs.reading.Field.letter.Goals as goal

pub returns : goal.returns
returns c = sym (letter_kind _ _ c.in_ok-kind.ensures)
