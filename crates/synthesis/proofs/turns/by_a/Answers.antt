-- `synthesis::turns::by_a` meets its contract.
use Rattle.synthesis.proofs.Progress.{says_a}
use Rattle.synthesis.proofs.turns.by_a.Goals as goal

pub returns : goal.returns
returns c d n t l l' ne h = says_a d n c.args.i c.args.j c.args.k.0 (rw c.value.ensures at c.on_two.ensures) c.unless.ensures l l' ne h
