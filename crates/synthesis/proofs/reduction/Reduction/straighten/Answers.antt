-- `synthesis::reduction::Reduction::straighten` meets its contract: where there is a power that clears w, gcd(v, d) divides w, which is the test of the definition.
use mathlib.Core.Path.{sym, subst}
use mathlib.Core.Bool.{cond}
use Prim.Native.Nat.{ℕ, ◌≤◌}
use native.Mathlib.Omega.{arith}
use lib.ListN.{get_or}
use Rattle.arith.specs.Units.{divides}
use Rattle.arith.proofs.Quotient.{quotient_tells, quotient_tells_none}
use Rattle.tableau.specs.Tableau.{column}
use Rattle.synthesis.specs.Inner.Reduce.{put_s, gather_w, exchange, clearing, clear_w, straighten}
use Rattle.synthesis.proofs.Did.{did_more, did_then, did_test, did_power, did_make}
use Rattle.synthesis.proofs.reduction.Reduction.straighten.Goals as goal

pub returns-in-Some : goal.returns-in-Some
unfolding straighten
returns-in-Some g c =
    let a = c.args in
    let d = (g.C.Columns.held a.self.now.columns).d in
    let k = c.in-Some.ensures.some in
    did_test (λ b d n s. clear_w d n a.c a.j (cond b s (exchange d n a.c a.j (gather_w d n a.c a.j s)))) (λ d n u. divides d (get_or (column n u a.c).v a.j 0) (get_or (column n u a.c).w a.j 0))
    (quotient_tells d _ _ (omega arith) (rw k.0 at k.1))
    (did_more (omega arith) (did_power (λ x d n. put_s d a.j x) (λ d n. clearing d n a.c a.j) k.0 (did_make (λ d n. put_s d a.j c.in-Some.k.0) c.shear-made.ensures c.put.ensures)))

pub returns : goal.returns
unfolding straighten
returns g c =
    let a = c.args in
    let d = (g.C.Columns.held a.self.now.columns).d in
    did_test (λ b d n s. clear_w d n a.c a.j (cond b s (exchange d n a.c a.j (gather_w d n a.c a.j s)))) (λ d n u. divides d (get_or (column n u a.c).v a.j 0) (get_or (column n u a.c).w a.j 0))
    (quotient_tells_none d _ _ (omega arith) (subst (λ (k : ℕ). d ≤ k) (sym c.in_default.ensures.none) (omega arith)))
    (did_more (omega arith) (did_then (did_then (did_make (λ d n. gather_w d n a.c a.j) c.gather_w-made.ensures c.put-2.ensures) (did_make (λ d n. exchange d n a.c a.j) c.exchange-made.ensures c.put-3.ensures))
    (did_make (λ d n. clear_w d n a.c a.j) c.clear_w-made.ensures c.put-4.ensures)))
