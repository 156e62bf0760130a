-- `pauli::Pauli::commutation` meets its contract: 0 where the words share no bit (`disjoint_commute`).
use Rattle.std.proofs.Common.{arith, sym}
use Rattle.pauli.proofs.Marks.{view_on, disjoint_commute}
use Rattle.pauli.proofs.Pauli.commutation.Goals as goal

pub returns-then-self-other-eq0 : goal.returns-then-self-other-eq0
returns-then-self-other-eq0 c = sym (disjoint_commute _ (omega arith) (view_on _ c.args.self) (view_on _ c.args.other) (rw (c.requires.words.0, c.requires.words.1) at c.if-self-other-eq0.true))
