-- `pauli::bytes::read_numbers`. The invariant: the numbers passed are read.
use Rattle.std.proofs.Common.{◌≡◌, ℕ, ◌+◌, ◌<◌, length, get_or}
use Rattle.arith.specs.Bytes.{number_at}
use Rattle.pauli.proofs.bytes.read_numbers.Given as goal

abbrev pub invariant-loop-i : goal.invariant-loop-i
invariant-loop-i l = record { size : length l.out ≡ 33; read : (j : ℕ) → j < l.i → get_or l.out j 0 ≡ number_at l.b (l.k + j) }
