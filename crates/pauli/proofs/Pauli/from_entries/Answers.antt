-- `pauli::Pauli::from_entries` meets its contract: one more entry of each is filled in each step (`filled_more`).
use Rattle.std.proofs.Common.{◌≡◌, refl, arith}
use Rattle.pauli.proofs.Entries.{filled_none, filled_more}
use Rattle.pauli.proofs.Ranges.{pauli_path}
use Rattle.pauli.proofs.Pauli.from_entries.Goals as goal

pub loop-i-init : goal.loop-i-init
loop-i-init g c = filled_none refl refl

pub loop-i-preserved : goal.loop-i-preserved
loop-i-preserved g c = filled_more c.loop-i.i _ _ (omega arith) (λ v w given. given _ _ _ (omega arith) c.entries.ensures) c.with_next-word.ensures c.loop-i.invariant

pub returns-clause-value : goal.returns-clause-value
returns-clause-value g c v w given =
    let e : c.loop-i.i ≡ c.args.n = omega arith in
    let h = rw e at c.loop-i.invariant in
    pauli_path refl (h.v_filled v w given) (h.w_filled v w given)
