-- `synthesis::turns::shear` meets its contract: the columns' d is the definition's.
use native.Mathlib.Omega.{arith}
use Rattle.synthesis.proofs.turns.shear.Goals as goal

pub returns : goal.returns
returns g c = let t = g.C.Columns.held c.args.t.now in rw c.modulus.ensures.value at (c.by_s.ensures t.n t.tableau (omega arith))
