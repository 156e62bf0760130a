-- `synthesis::calls::write_list` meets its contract: the reduction from the start, then the reversal.
use native.Mathlib.Omega.{arith}
use Rattle.std.proofs.Common.{rules}
use Rattle.synthesis.specs.Inner.Reduce.{reduce}
use Rattle.synthesis.proofs.Handed.{list_reduced}
use Rattle.synthesis.proofs.Progress.{does_from}
use Rattle.synthesis.proofs.Did.{did_then}
use Rattle.synthesis.proofs.calls.write_list.Goals as goal

pub returns : goal.returns
unfolding reduce
returns g c =
    let t = g.C.Columns.held c.args.columns in
    let h = did_then c.all_stages.ensures c.all_phases.ensures in
    let w = h.does.within in
    let r = list_reduced t.n t.tableau (does_from h.does) (omega arith) c.reverse_rows.ensures in
    let o = h.output in
    record { count = r.0; list = search rules }
