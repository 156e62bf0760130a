-- `tableau::batch::images` meets its contract: what its checks have shown, and that the tests that it makes are those of the single calls (`images_parts`).
use Rattle.std.proofs.Common.{sym, ap, ◌≡◌, ℕ, length, rules}
use Rattle.arith.proofs.Refusals.{room_good, written_second}
use Rattle.arith.proofs.Passes.{both_pass}
use Rattle.tableau.specs.Inner.Parts.{images_lengths}
use Rattle.tableau.proofs.Accepted.{given_size}
use Rattle.tableau.proofs.Singles.{images_parts}
use Rattle.tableau.proofs.batch.images.Goals as goal

pub tested_images-requires : goal.tested_images-requires
tested_images-requires c = record { lengths = (given_size (sym c.in_ok-modulus.ensures.refusal) c.in_ok-modulus.ensures.value, room_good (sym c.in_ok-room.ensures)) }

pub returns : goal.returns
returns c =
    let a = c.args in
    let same_d = ap (λ (p : ℕ × ℕ). p.0) c.in_ok-modulus.ensures.value in
    let same_n = ap (λ (p : ℕ × ℕ). p.1) c.in_ok-modulus.ensures.value in
    let lengths : images_lengths a.d a.n (length a.tableau.now) (length a.batch.now) (length a.out.now) ≡ 0 = both_pass (sym c.in_ok-modulus.ensures.refusal) (both_pass (search rules) (sym c.in_ok-room.ensures)) in
    written_second _ _ (images_parts a.d a.n a.tableau.now a.batch.now _) lengths (rw (same_d, same_n) at c.tested_images.ensures)
