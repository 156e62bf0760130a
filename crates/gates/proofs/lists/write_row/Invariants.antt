-- The invariant: the numbers passed are written from number 4·r on.
use mathlib.Core.Path.{◌≡◌}
use Prim.Native.Nat.{◌*◌}
use lib.ListN.{get_or}
use lib.Seq.{sets}
use Rattle.arith.specs.Bytes.{tab, bytes_of}
use Rattle.gates.proofs.lists.write_row.Given as goal

abbrev pub invariant-loop-i : goal.invariant-loop-i
invariant-loop-i l = l.out ≡ sets l.initial.out (2 * (4 * l.r)) (bytes_of (tab (λ j. get_or l.number-items j 0) l.i))
