-- `pauli::Pauli::placed` meets its contract: one entry of each array, and one bit of the word.
use Rattle.pauli.proofs.Marks.{view_on, placed_word}
use Rattle.pauli.proofs.Pauli.placed.Goals as goal

pub returns-clause-word : goal.returns-clause-word
returns-clause-word c n l m t =
    placed_word c.args.x.0 c.args.z.0 (view_on n c.args.self) l (c.with_one-v.ensures n l m) (c.with_one-w.ensures n l m) t c.with_entries-word.ensures
