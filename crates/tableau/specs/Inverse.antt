-- The tableau that undoes another (document 01, "Further calls"): column k is the Pauli that the given tableau carries to unit Pauli k.
use Rattle.std.specs.Prelude.{List, map, ℕ, ◌+◌, ◌*◌, ◌%◌}
use Rattle.arith.specs.Residues.{neg}
use Rattle.pauli.specs.Pauli.{Pauli, comm}
use Rattle.tableau.specs.Tableau.{up_from, units, column, image}

-- the entries of the Pauli that t carries to q up to its phase: column k of −P·Cᵀ·P at q = unit k
abbrev pub drawn : ℕ → ℕ → List Pauli → Pauli → Pauli
drawn d n t q = record {
  phase = 0;
  v = map (λ i. neg d (comm d q (column n t (n + i))) % d) (up_from 0 n);
  w = map (λ i. comm d q (column n t i)) (up_from 0 n);
}

-- with the phase that makes it exact
abbrev pub preimage : ℕ → ℕ → List Pauli → Pauli → Pauli
preimage d n t q = record {
  phase = (q.phase + neg (2 * d) (image d n t (drawn d n t q)).phase) % (2 * d);
  v = (drawn d n t q).v;
  w = (drawn d n t q).w;
}

abbrev pub inverse : ℕ → ℕ → List Pauli → List Pauli
inverse d n t = map (preimage d n t) (units n)
