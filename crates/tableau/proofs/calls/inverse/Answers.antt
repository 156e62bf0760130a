-- `tableau::calls::inverse` meets its contract: what its checks have shown.
use Rattle.std.proofs.Common.{sym}
use Rattle.arith.proofs.Refusals.{room_good}
use Rattle.tableau.proofs.Accepted.{given_size, table_sound}
use Rattle.tableau.proofs.calls.inverse.Goals as goal

pub read-requires : goal.read-requires
read-requires c = record { size = given_size (sym c.in_ok-modulus.ensures.refusal) c.in_ok-modulus.ensures.value }

pub write_inverse-requires-clause-all_in_range : goal.write_inverse-requires-clause-all_in_range
write_inverse-requires-clause-all_in_range c = (table_sound c.args.tableau.now c.read.ensures (sym c.in_ok-tests.ensures)).0.ranges

pub write_inverse-requires-clause-room : goal.write_inverse-requires-clause-room
write_inverse-requires-clause-room c = rw (← c.tableau_bytes.ensures) (room_good (sym c.in_ok-room.ensures))
