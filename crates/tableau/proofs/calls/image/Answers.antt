-- `tableau::calls::image` meets its contract: what its checks have shown, and that what it writes is at the front of the output.
use Rattle.std.proofs.Common.{sym, ap, ℕ, arith, rules}
use Rattle.pauli.proofs.Encoding.{write_answer}
use Rattle.tableau.proofs.Accepted.{given_size, lent_good, table_formed}
use Rattle.tableau.proofs.calls.image.Goals as goal

pub read-requires : goal.read-requires
read-requires c = record { size = given_size (sym c.in_ok-modulus.ensures.refusal) c.in_ok-modulus.ensures.value }

pub read-q-requires : goal.read-q-requires
read-q-requires c =
    let same = ap (λ (p : ℕ × ℕ). p.1) c.in_ok-modulus.ensures.value in
    let lent = lent_good (sym c.in_ok-lent.ensures) in
    omega arith

pub image-requires : goal.image-requires
image-requires c = record { all_in_range = (table_formed c.args.tableau.now c.read.ensures (sym c.in_ok-range.ensures)).ranges }

pub write-requires : goal.write-requires
write-requires c =
    let same = ap (λ (p : ℕ × ℕ). p.1) c.in_ok-modulus.ensures.value in
    let lent = lent_good (sym c.in_ok-lent.ensures) in
    omega arith

pub returns : goal.returns
returns c =
    let same = ap (λ (p : ℕ × ℕ). p.1) c.in_ok-modulus.ensures.value in
    let lent = lent_good (sym c.in_ok-lent.ensures) in
    let answer = write_answer c.in_ok-modulus.width _ _ c.image.result _ (omega arith) c.write.ensures c.image.ensures.value in
    search rules
