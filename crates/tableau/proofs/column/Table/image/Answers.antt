-- `tableau::column::Table::image` meets its contract.
use Rattle.std.proofs.Common.{ℕ, ◌++◌, sym, ap, ap₂, subst, ◌∙◌, arith, length-append}
use Rattle.arith.proofs.Bytes.{tab_length}
use Rattle.pauli.specs.Pauli.{Pauli, InRange, product, power}
use Rattle.pauli.specs.Inner.View.{at, entries}
use Rattle.tableau.specs.Tableau.{multiplied}
use Rattle.tableau.specs.Inner.View.{table_view}
use Rattle.tableau.specs.Inner.Sums.{product_view}
use Rattle.tableau.proofs.Views.{view_column, table_length}
use Rattle.tableau.proofs.Columns.{column_inside}
use Rattle.tableau.proofs.Loops.{multiplied_next, multiplied_end}
use Rattle.tableau.proofs.Unreduced.{summed_within}
use Rattle.tableau.proofs.column.Table.image.Goals as goal

pub loop-j-init : goal.loop-j-init
loop-j-init c =
    let a = c.args in
    record {
      value = ap (λ (x : Pauli). multiplied a.d a.n x (table_view a.n a.self.now) (entries a.n a.p.v ++ entries a.n a.p.w)) (sym (c.of_phase-product.ensures.value a.d a.n));
      summed = c.of_phase-product.ensures.summed;
    }

pub multiply-requires : goal.multiply-requires
multiply-requires c =
    let a = c.args in
    let j = c.loop-j.j in
    record { in_range = (subst (InRange a.d a.n) (view_column a.n a.self.now j _ (omega arith) (omega arith)) (column_inside j (omega (arith, table_length a.n a.self.now)) c.requires.all_in_range), summed_within (omega arith) c.loop-j.invariant.summed) }

pub loop-j-preserved : goal.loop-j-preserved
loop-j-preserved c =
    let a = c.args in
    let j = c.loop-j.j in
    let out = product_view a.d a.n c.loop-j.product in
    let next = c.multiply.ensures.value ∙ ap₂ (λ (q : Pauli) (k : ℕ). product a.d out (power a.d a.n q k)) (sym (view_column a.n a.self.now j _ (omega arith) (omega arith))) c.exponent.ensures in
    record {
      value = multiplied_next a.d a.n out (table_view a.n a.self.now) (entries a.n a.p.v ++ entries a.n a.p.w) j (omega (arith, table_length a.n a.self.now)) (omega (arith, length-append (entries a.n a.p.v) (entries a.n a.p.w), tab_length (at a.p.v) a.n, tab_length (at a.p.w) a.n)) next c.loop-j.invariant.value;
      summed = c.multiply.ensures.summed j c.loop-j.invariant.summed;
    }

pub returns-clause-value : goal.returns-clause-value
returns-clause-value c =
    let a = c.args in
    c.reduced.ensures.value ∙ sym (c.loop-j.invariant.value ∙ multiplied_end a.d a.n (product_view a.d a.n c.loop-j.product) (table_view a.n a.self.now) (entries a.n a.p.v ++ entries a.n a.p.w) c.loop-j.j (omega (arith, table_length a.n a.self.now)))
