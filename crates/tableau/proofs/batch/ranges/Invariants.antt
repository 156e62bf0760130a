-- The Paulis that are left decide.
use Rattle.std.proofs.Common.{◌≡◌}
use Rattle.std.specs.Slice.Iter.{chunks_exact_rest, chunks_exact_size}
use Rattle.pauli.specs.Bytes.{pauli_bytes}
use Rattle.tableau.specs.Range.{tableau_range_of}
use Rattle.tableau.specs.Inner.Parts.{decode_batch}
use Rattle.tableau.proofs.batch.ranges.Given as goal

abbrev pub invariant-loop-p : goal.invariant-loop-p
invariant-loop-p l = record {
  size : chunks_exact_size l.p-iterator ≡ pauli_bytes l.n;
  left : tableau_range_of l.d (decode_batch l.n l.batch) ≡ tableau_range_of l.d (decode_batch l.n (chunks_exact_rest l.p-iterator));
}
