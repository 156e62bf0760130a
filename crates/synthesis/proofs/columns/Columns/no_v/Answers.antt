-- `synthesis::columns::Columns::no_v` meets its contract: the numbers that are gone through are those from `from` on.
use mathlib.Core.Path.{◌≡◌, refl, ◌∙◌, ap}
use mathlib.Core.Bool.{Bool, ◌&&◌}
use Prim.Native.Nat.{ℕ, zero, suc, ◌-◌}
use native.Mathlib.Numerals.{add-one}
use native.Mathlib.Omega.{arith}
use lib.Dec.{eqb}
use borrow.Author.Tests.{tests}
use Rattle.std.proofs.Common.{rules}
use Rattle.std.specs.List.{list_all, range_with_len}
use Rattle.std.proofs.lemmas.Iterator.{YieldsList-from_range}
use Rattle.std.proofs.lemmas.Iterator.Search.{all_from_yields_List}
use Rattle.pauli.specs.Pauli.{Pauli}
use Rattle.tableau.specs.Tableau.{column, up_from}
use Rattle.synthesis.specs.Inner.Reduce.{no_v}
use Rattle.synthesis.proofs.Entries.{v_of}
use Rattle.synthesis.proofs.columns.Columns.no_v.Goals as goal

abbrev zero_at : Pauli → ℕ → Bool
zero_at p i = eqb (v_of p i) 0

all_zero : (p : Pauli) (a m : ℕ) → list_all (zero_at p) (range_with_len a m) ≡ no_v p (up_from a m)
all_zero p a zero = refl
all_zero p a (suc m) = ap (λ (t : Bool). zero_at p a && t) (ap (λ (i : ℕ). list_all (zero_at p) (range_with_len i m)) (add-one a) ∙ all_zero p (suc a) m)

pub returns : goal.returns
returns g c =
    let t = g.Self.Columns.held c.args.self.now in
    let p = column t.n t.tableau c.args.c in
    all_from_yields_List (zero_at p) _ _ c.all.result c.all.ensures.ran (YieldsList-from_range c.args.from c.width.result (t.n - c.args.from) refl (omega arith)) (λ x b q k. search (rules, tests))
    ∙ all_zero p c.args.from (t.n - c.args.from)
