-- `synthesis::reduction::Reduction::unit_z` meets its contract: the test is that of the definition; nothing is done, or the turns follow.
use mathlib.Core.Path.{refl, sym}
use mathlib.Core.Bool.{cond}
use Prim.Native.Nat.{◌+◌}
use native.Mathlib.Omega.{arith}
use Rattle.std.proofs.Common.{rules}
use Rattle.gates.specs.Row.{F}
use Rattle.tableau.specs.Tableau.{column}
use Rattle.synthesis.specs.Inner.Reduce.{put, onward, clear_partner_v, no_v, shear_partner, partner_turned, second_column}
use Rattle.synthesis.proofs.Did.{did_as_nothing, did_more, did_then, did_test, did_make}
use Rattle.synthesis.proofs.reduction.Reduction.unit_z.Goals as goal

pub returns-then-no_v : goal.returns-then-no_v
unfolding second_column
returns-then-no_v g c =
    let q = c.args.q in
    did_test (λ b d n s. cond b s (partner_turned d n q s)) (λ d n u. no_v (column n u (n + q)) (onward d n q)) (sym (rw c.width.ensures.value at c.if-no_v.ensures))
    (did_as_nothing _ (λ d n s. s) (λ s h. refl))

pub returns : goal.returns
unfolding second_column partner_turned
returns g c =
    let a = c.args in
    did_test (λ b d n s. cond b s (partner_turned d n a.q s)) (λ d n u. no_v (column n u (n + a.q)) (onward d n a.q)) (sym (rw c.width.ensures.value at c.if-no_v.ensures))
    (did_more (omega arith) (did_then (did_then (did_then (did_make (λ d n. put d (F a.q 1)) c.fourier-made.ensures c.put.ensures) (c.each_later.ensures.did (λ d n. clear_partner_v d n a.q) (λ t j made l h p. search rules)))
    (did_make (λ d n. shear_partner d n a.q) c.shear_partner-made.ensures c.put-2.ensures)) (did_make (λ d n. put d (F a.q 3)) c.fourier-made-2.ensures c.put-3.ensures)))
