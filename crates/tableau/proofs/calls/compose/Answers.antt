-- `tableau::calls::compose` meets its contract: what its checks have shown.
use Rattle.std.proofs.Common.{sym, ◌∙◌}
use Rattle.tableau.proofs.Accepted.{given_size, lent_good, table_formed}
use Rattle.tableau.proofs.calls.compose.Goals as goal

pub read-requires : goal.read-requires
read-requires c = record { size = given_size (sym c.in_ok-modulus.ensures.refusal) c.in_ok-modulus.ensures.value }

pub read-requires-2 : goal.read-requires-2
read-requires-2 c = record { size = (lent_good (sym c.in_ok-lent.ensures)).0 ∙ c.tableau_bytes-want.ensures }

pub write_composed-requires-clause-all_in_range : goal.write_composed-requires-clause-all_in_range
write_composed-requires-clause-all_in_range c = (table_formed c.args.second.now c.read-2.ensures (sym c.in_ok-range-2.ensures)).ranges

pub write_composed-requires-clause-room : goal.write_composed-requires-clause-room
write_composed-requires-clause-room c = rw (← c.tableau_bytes-want.ensures) (lent_good (sym c.in_ok-lent.ensures)).1
