-- `arith::divisor::inverse` meets its contract: the factor times q is gcd(q, d), which is 1, and one number alone below d does that.
use Rattle.std.proofs.Common.{ℕ, ◌%◌, ◌∙◌, ap, arith}
use native.Mathlib.Nat.{mul_comm}
use Rattle.arith.proofs.Cong.{cong_of_eq, cong_trans}
use Rattle.arith.proofs.Units.{inverse_only}
use Rattle.arith.proofs.divisor.inverse.Goals as goal

pub returns : goal.returns
returns c =
    let z = c.args in let r = c.euclid in
    inverse_only z.d z.q.0 (omega arith) c.requires r.result.factor.0 r.ensures.1
    (cong_trans (cong_of_eq (mul_comm z.q.0 r.result.factor.0)) (record { same = r.ensures.2 ∙ ap (λ (x : ℕ). x % z.d) c.requires }))
