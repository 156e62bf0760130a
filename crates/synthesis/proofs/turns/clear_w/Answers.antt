-- `synthesis::turns::clear_w` meets its contract: a power, or none where no power clears w.
use mathlib.Core.Path.{sym}
use native.Mathlib.Nat.{mod_self}
use Rattle.synthesis.specs.Inner.Reduce.{put_s, clearing}
use Rattle.synthesis.proofs.Progress.{says_power, says_s_none}
use Rattle.synthesis.proofs.turns.clear_w.Goals as goal

pub returns-in_err-k : goal.returns-in_err-k
returns-in_err-k g c =
    let a = c.args in
    let t = g.C.Columns.held a.t.now in
    rw c.from_residual.ensures (says_power (put_s t.d a.j) (clearing t.d t.n a.c a.j) (sym c.in_err-k.ensures.none) (says_s_none t.d t.n a.j t.d (mod_self t.d)))
