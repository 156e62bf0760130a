-- `tableau::batch::tested_images` meets its contract: the tests and the images are of the tableau that the bytes hold.
use Rattle.std.proofs.Common.{sym, rules, ◌+◌, ◌*◌, ◌/◌, length}
use Rattle.pauli.specs.Bytes.{pauli_bytes}
use Rattle.tableau.proofs.Accepted.{table_formed}
use Rattle.tableau.proofs.Bytes.{ranges_good}
use Rattle.tableau.proofs.Singles.{images_encoded}
use Rattle.tableau.proofs.batch.tested_images.Goals as goal

pub write_images-requires-clause-all_in_range : goal.write_images-requires-clause-all_in_range
write_images-requires-clause-all_in_range c =
    let a = c.args in
    ((table_formed a.tableau.now c.read.ensures (sym c.in_ok-range.ensures)).ranges, ranges_good (λ j. j * (1 + 2 * a.n)) a.batch.now (length a.batch.now / pauli_bytes a.n) (sym c.in_ok-ranges.ensures))

pub returns : goal.returns
returns c =
    let encoded = images_encoded c.args.d c.args.n c.args.tableau.now c.args.batch.now in
    search rules
