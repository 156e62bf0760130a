-- The invariant: r swaps are done.
use mathlib.Core.Path.{◌≡◌}
use mathlib.Core.List.{List, ◌++◌}
use Prim.Native.Nat.{ℕ}
use lib.ListN.{length}
use Rattle.gates.specs.Written.{WrittenRow, encode_rows}
use Rattle.synthesis.proofs.Reversed.{turned}
use Rattle.synthesis.proofs.list.reverse_rows.Given as goal

abbrev pub invariant-loop-r : goal.invariant-loop-r
invariant-loop-r l = (ws : List WrittenRow) (rest : List ℕ) → length ws ≡ l.count → l.initial.out ≡ encode_rows ws ++ rest → l.out ≡ encode_rows (turned ws l.r) ++ rest
