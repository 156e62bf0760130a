-- `synthesis::turns::fourier` meets its contract: it is F with its power.
use native.Mathlib.Omega.{arith}
use Rattle.synthesis.proofs.Progress.{says_f}
use Rattle.synthesis.proofs.turns.fourier.Goals as goal

pub returns : goal.returns
returns g c = let a = c.args in let t = g.C.Columns.held a.t.now in says_f t.d t.n a.q _ c.on_one.ensures (omega arith) c.requires.1
