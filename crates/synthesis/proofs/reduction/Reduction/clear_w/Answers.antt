-- `synthesis::reduction::Reduction::clear_w` meets its contract: the test is that of the definition, and one of its two loops follows.
use mathlib.Core.Path.{sym}
use mathlib.Core.Bool.{cond}
use Prim.Native.Nat.{◌+◌}
use native.Mathlib.Numerals.{add-one}
use native.Mathlib.Omega.{arith}
use Rattle.std.proofs.Common.{rules}
use Rattle.tableau.specs.Tableau.{column}
use Rattle.synthesis.specs.Inner.Reduce.{each, later, no_v, straighten, clear_partner_w, partner_straightened}
use Rattle.synthesis.proofs.Did.{did_more, did_as, did_test}
use Rattle.synthesis.proofs.reduction.Reduction.clear_w.Goals as goal

pub returns-then-no_v : goal.returns-then-no_v
unfolding partner_straightened
returns-then-no_v g c =
    let q = c.args.q in
    did_test (λ b d n s. cond b (each (clear_partner_w d n q) (later d n q) s) (each (straighten d n (n + q)) (later d n q) s)) (λ d n u. no_v (column n u (n + q)) (later d n q))
    (sym (rw (c.width.ensures.value, add-one q) at c.if-no_v.ensures)) (did_more (omega arith) (c.each_later.ensures.did (λ d n. clear_partner_w d n q) (λ t j made l h p. search rules)))

pub returns-else-no_v : goal.returns-else-no_v
unfolding partner_straightened
returns-else-no_v g c =
    let q = c.args.q in
    did_test (λ b d n s. cond b (each (clear_partner_w d n q) (later d n q) s) (each (straighten d n (n + q)) (later d n q) s)) (λ d n u. no_v (column n u (n + q)) (later d n q))
    (sym (rw (c.width.ensures.value, add-one q) at c.if-no_v.ensures))
    (did_more (omega arith) (did_as (λ d n. each (straighten d n (n + q)) (later d n q)) (λ s h. rw (c.width.ensures.value, add-one q)) c.straighten_from.ensures))
