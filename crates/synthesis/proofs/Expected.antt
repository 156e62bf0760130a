-- What to expect of a list, assembled: each bound is the one law of weights, at its own weights.
use mathlib.Core.Path.{◌∙◌, ap}
use mathlib.Core.List.{List}
use Prim.Native.Nat.{ℕ, ◌+◌, ◌*◌, ◌≤◌, ◌<◌}
use native.Mathlib.Omega.{arith}
use lib.ListN.{length}
use Rattle.pauli.specs.Pauli.{Pauli}
use Rattle.tableau.specs.Tableau.{WellFormed, Sound}
use Rattle.synthesis.specs.Inner.Reduce.{synthesised}
use Rattle.synthesis.specs.Measures.{on_pair, between, Prime, Expected}
use Rattle.synthesis.proofs.Count.{costs}
use Rattle.synthesis.proofs.CountSecond.{tri_twice, pairs_const, pairs_one}
use Rattle.synthesis.proofs.Busy.{weigh_ones, ones, pair_rows, betweens, idles, idle, all_busy}
use Rattle.synthesis.proofs.Prime.{prime_costs}
use Rattle.synthesis.proofs.Identity.{identity_empty}
use Rattle.synthesis.proofs.Theorem.{weighs, length_at, synthesis}

module _ {d n : ℕ} {t : List Pauli} (one : 1 < d) (formed : WellFormed d n t) (sound : Sound d n t) where
  prime_at : Prime d → 2 * length (synthesised d n t) ≤ 5 * (n * n) + 9 * n
  prime_at p = omega (arith, weigh_ones (synthesised d n t), tri_twice n, pairs_const 1 0 n, weighs one formed sound (λ r. 1) (prime_costs p (ones d (omega arith))))

  pub expected : Expected d n t (synthesised d n t)
  expected = record {
    short = omega (arith, length_at one formed sound, tri_twice n);
    shorter = prime_at;
    few = omega (arith, weighs one formed sound (on_pair (λ i j. 1) (λ i j. 1)) (costs (pair_rows d (λ i j. 1) (λ i j. 1) (λ i j. 1) (omega arith) (λ i j l. omega arith) (λ i j l. omega arith))), pairs_const 1 0 n, tri_twice n);
    three = λ p q l. omega (arith, weighs one formed sound (on_pair (between p q) (between p q)) (costs (betweens d p q (omega arith) l)), pairs_one p q 0 n);
    six = omega (arith, weighs one formed sound (on_pair (λ i j. 0) (λ i j. 1)) (costs (pair_rows d (λ i j. 0) (λ i j. 1) (λ i j. 0) (omega arith) (λ i j l. omega arith) (λ i j l. omega arith))), pairs_const 0 0 n);
    busy = all_busy (synthesis one formed sound).legal (omega (arith, weighs one formed sound (idle d) (costs (idles d one)), pairs_const 0 0 n));
    empty = λ e. ap (synthesised d n) e ∙ identity_empty one n;
  }
