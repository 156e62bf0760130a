-- `gates::lists::LegalList::run`: the Pauli in work is what the rows passed carry the first one to, and its word is true if that one's is.
use Rattle.std.proofs.Common.{◌≡◌, map}
use Rattle.arith.specs.Bytes.{tab}
use Rattle.pauli.specs.Inner.View.{view, WordTrue}
use Rattle.gates.specs.Row.{run}
use Rattle.gates.specs.Written.{meant, row_at}
use Rattle.gates.proofs.lists.LegalList.run.Given as goal

abbrev pub invariant-loop-r : goal.invariant-loop-r
invariant-loop-r l = record { value : view l.self.n l.q ≡ run l.self.d (map meant (tab (row_at l.self.bytes.now) l.r)) (view l.self.n l.fn.p); word : WordTrue l.self.n l.fn.p → WordTrue l.self.n l.q }
