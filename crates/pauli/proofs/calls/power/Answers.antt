-- `pauli::calls::power` meets its contract: past the check of 5 the Pauli that was read is in range.
use Rattle.std.proofs.Common.{sym}
use Rattle.pauli.proofs.Encoding.{view_range}
use Rattle.pauli.proofs.calls.power.Goals as goal

pub power-requires : goal.power-requires
power-requires c = record { in_range = view_range c.read-base.result (sym c.in_ok-range.ensures) }
