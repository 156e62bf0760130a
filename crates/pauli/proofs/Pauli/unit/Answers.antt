-- `pauli::Pauli::unit` meets its contract: a 1 among zeros (`entries_one`), in v or in w, and one bit in the word.
use Rattle.std.proofs.Common.{refl, sym, ap, ◌∙◌, ◌-◌, ◌<◌, arith}
use Rattle.pauli.specs.Support.{support_of}
use Rattle.pauli.proofs.Ranges.{pauli_path}
use Rattle.pauli.proofs.Entries.{entries_zeros, entries_one}
use Rattle.pauli.proofs.Marks.{unit_word}
use Rattle.pauli.proofs.Units.{unit_x_lem, unit_z_lem}
use Rattle.pauli.proofs.Words.{one_shifted}
use Rattle.pauli.proofs.Pauli.unit.Goals as goal

pub returns-then-j-m : goal.returns-then-j-m
returns-then-j-m c =
    let a = c.args in
    let l : a.j < a.n = omega arith in
    let z = pauli_path refl (entries_one 16 a.n a.j (omega arith)) (entries_zeros 16 a.n) in
    record { value = z ∙ sym (unit_x_lem _ _ l); word = one_shifted 16 a.j (omega arith) ∙ sym (ap support_of z ∙ (unit_word a.n a.j l).0) }

pub returns : goal.returns
returns c =
    let a = c.args in
    let k = a.j - a.n in
    let z = pauli_path refl (entries_zeros 16 a.n) (entries_one 16 a.n k (omega arith)) in
    rw c.value-m.ensures.value (record { value = z ∙ sym (unit_z_lem _ _ (omega arith)); word = one_shifted 16 k (omega arith) ∙ sym (ap support_of z ∙ (unit_word a.n k (omega arith)).1) })
