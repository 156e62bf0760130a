-- What is multiplied so far, times the powers of the columns from j on, is the image, and the sums are those of j powers.
use Rattle.std.proofs.Common.{◌≡◌, ◌++◌, drop}
use Rattle.pauli.specs.Inner.View.{view, entries}
use Rattle.tableau.specs.Tableau.{multiplied, image}
use Rattle.tableau.specs.Inner.View.{table_view}
use Rattle.tableau.specs.Inner.Sums.{product_view, Summed}
use Rattle.tableau.proofs.column.Table.image.Given as goal

abbrev pub invariant-loop-j : goal.invariant-loop-j
invariant-loop-j l = record {
  value : image l.d l.n (table_view l.n l.self) (view l.n l.p) ≡ multiplied l.d l.n (product_view l.d l.n l.product) (drop l.j (table_view l.n l.self)) (drop l.j (entries l.n l.p.v ++ entries l.n l.p.w));
  summed : Summed l.j l.product;
}
