-- `synthesis::reduction::Reduction::each_later` meets its contract: one turn more.
use mathlib.Core.Path.{◌∙◌}
use Prim.Native.Nat.{◌+◌}
use native.Mathlib.Omega.{arith}
use Rattle.std.proofs.Common.{rules}
use Rattle.synthesis.proofs.Did.{did_make, turns_more}
use Rattle.synthesis.proofs.reduction.Reduction.each_later.Goals as goal

pub loop-j-preserved : goal.loop-j-preserved
loop-j-preserved g c =
    let l = c.loop-j in
    let k = l.invariant.kept in
    let e = c.put.ensures in
    record {
      kept = record { modulus = e.modulus ∙ k.modulus; width = e.width ∙ k.width; output = e.output ∙ k.output; size = e.size ∙ k.size; within = omega (arith, e.does.within) };
      did = λ turn says.
          let h = l.invariant.did turn says in
          turns_more turn (c.args.q + 1) l.j (omega arith) (omega (arith, e.does.within, h.does.within)) h (did_make (λ d n. turn d n l.j) (search rules) e);
    }
