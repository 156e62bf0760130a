use Rattle.std.proofs.Common.{rules, ◌+◌, get_or}
use Rattle.pauli.proofs.Made.{made}
use Rattle.pauli.proofs.arrays.entries_from.Goals as goal

pub returns : goal.returns
returns c = made (λ i. get_or c.args.a.now (c.args.k + i) 0) (λ i x q e. search rules) c.from_fn.ensures.items
