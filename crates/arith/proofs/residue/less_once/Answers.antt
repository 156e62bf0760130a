-- `arith::residue::less_once` meets its contract: m taken away changes no remainder modulo m.
use Rattle.std.proofs.Common.{◌≤◌, sym, arith}
use native.Mathlib.Nat.{mod-eq-sub-mod}
use Rattle.arith.proofs.residue.less_once.Goals as goal

pub returns-clause-same : goal.returns-clause-same
returns-clause-same c = let a = c.args in let h : a.m ≤ a.x = omega arith in sym (mod-eq-sub-mod h)
