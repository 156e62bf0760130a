-- `tableau::output::write_paulis` meets its contract: one Pauli more is written, and after the last all of them.
use Rattle.std.proofs.Common.{arith}
use Rattle.tableau.proofs.Bytes.{view_length, paulis_none, paulis_next, paulis_all}
use Rattle.tableau.proofs.output.write_paulis.Goals as goal

pub loop-j-init : goal.loop-j-init
loop-j-init g c f given = paulis_none _ _ _

pub loop-j-preserved : goal.loop-j-preserved
loop-j-preserved g c f given = paulis_next _ f c.loop-j.j (view_length c.args.n c.make.result) (given c.loop-j.j _ c.loop-j-test.true c.make.ensures) (c.loop-j.invariant f given) (rw c.value.ensures.value at c.write.ensures)

pub returns : goal.returns
returns g c f given = paulis_all c.args.n c.args.m f (omega arith) c.requires.room (c.loop-j.invariant f given)
