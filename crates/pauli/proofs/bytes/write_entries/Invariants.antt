-- `pauli::bytes::write_entries`. The invariant: the entries passed are written from number k on.
use Rattle.std.proofs.Common.{◌≡◌, ◌*◌}
use Rattle.std.proofs.lemmas.List.Edits.{sets}
use Rattle.arith.specs.Bytes.{bytes_of}
use Rattle.pauli.specs.Inner.View.{entries}
use Rattle.pauli.proofs.bytes.write_entries.Given as goal

abbrev pub invariant-loop-i : goal.invariant-loop-i
invariant-loop-i l = l.b ≡ sets l.initial.b (2 * l.k) (bytes_of (entries l.i l.a))
