-- Laws of what the reduction's methods do, from one reduction to the next: one after another, a step that a test or a power decides, a row put behind, a loop. Assumes nothing.
use mathlib.Core.Path.{◌≡◌, refl, sym, ◌∙◌, subst}
use mathlib.Core.Bool.{Bool}
use mathlib.Core.List.{List}
use Rattle.std.specs.Prelude.{Option}
use Prim.Native.Nat.{ℕ, ◌+◌, ◌≤◌}
use lib.ListN.{get_or}
use Rattle.arith.specs.Units.{IsUnit}
use Rattle.pauli.specs.Pauli.{Pauli}
use Rattle.gates.specs.declared.Row.{Row as Code}
use Rattle.tableau.specs.Tableau.{column}
use Rattle.synthesis.specs.Inner.Reduce.{State, start, v_at}
use Rattle.synthesis.specs.Inner.Held.{Held}
use Rattle.synthesis.specs.Inner.Progress.{Does, put_made}
use Rattle.synthesis.specs.Inner.Did.{Makes, Did}
use Rattle.synthesis.specs.declared.reduction.Reduction.{Reduction}
use Rattle.synthesis.proofs.Progress.{does_nothing, does_more, does_as, does_test, does_power, does_from, does_then, says_does, up_to, loop_none, loop_more}

module _ {C : Type 0} {held : C → Held} {r : Reduction C} where
  -- a step that does nothing
  pub did_as_nothing : (k : ℕ) (f : ℕ → ℕ → State → State) → ((s : State) → (held r.columns).tableau ≡ s.tableau → s ≡ f (held r.columns).d (held r.columns).n s) → Did held k f r r
  did_as_nothing k f e = record { modulus = refl; width = refl; output = refl; size = refl; does = does_as _ e (does_nothing k) }

module _ {C : Type 0} {held : C → Held} {r r' : Reduction C} where
  pub did_more : {k l : ℕ} {f : ℕ → ℕ → State → State} → k ≤ l → Did held k f r r' → Did held l f r r'
  did_more h a = record { modulus = a.modulus; width = a.width; output = a.output; size = a.size; does = does_more h a.does }

  -- a step that is the same at the tableau that the code holds
  pub did_as : {k : ℕ} {f : ℕ → ℕ → State → State} (g : ℕ → ℕ → State → State)
      → ((s : State) → (held r.columns).tableau ≡ s.tableau → f (held r.columns).d (held r.columns).n s ≡ g (held r.columns).d (held r.columns).n s) → Did held k f r r' → Did held k g r r'
  did_as g e a = record { modulus = a.modulus; width = a.width; output = a.output; size = a.size; does = does_as _ e a.does }

  -- a step that a test of the tableau decides
  pub did_test : {k : ℕ} (f : Bool → ℕ → ℕ → State → State) (test : ℕ → ℕ → List Pauli → Bool) {b : Bool} → test (held r.columns).d (held r.columns).n (held r.columns).tableau ≡ b
      → Did held k (f b) r r' → Did held k (λ d n s. f (test d n s.tableau) d n s) r r'
  did_test f test e a = record { modulus = a.modulus; width = a.width; output = a.output; size = a.size; does = does_test (λ b. f b (held r.columns).d (held r.columns).n) (test (held r.columns).d (held r.columns).n) e a.does }

  -- a step whose power is read off the tableau
  pub did_power : {m k : ℕ} (f : ℕ → ℕ → ℕ → State → State) (power : ℕ → ℕ → List Pauli → ℕ) → k ≡ power (held r.columns).d (held r.columns).n (held r.columns).tableau
      → Did held m (f k) r r' → Did held m (λ d n s. f (power d n s.tableau) d n s) r r'
  did_power f power e a = record { modulus = a.modulus; width = a.width; output = a.output; size = a.size; does = does_power (λ k. f k (held r.columns).d (held r.columns).n) (power (held r.columns).d (held r.columns).n) e a.does }

  -- the row that was made for a step is put behind
  pub did_make : {k : ℕ} (f : ℕ → ℕ → State → State) {made : Option Code} → Makes f (held r.columns) made → Did held k (λ d n. put_made d made) r r' → Did held k f r r'
  did_make f m a = record { modulus = a.modulus; width = a.width; output = a.output; size = a.size; does = says_does m a.does }

  -- what is a unit at the state that the step leads to is one at the code's tableau
  pub unit_reached : {k : ℕ} {f : ℕ → ℕ → State → State} (q : ℕ) → Did held k f r r' → IsUnit (held r.columns).d (v_at (held r.columns).n (f (held r.columns).d (held r.columns).n (start (held r.columns).tableau)) q q)
      → IsUnit (held r'.columns).d (get_or (column (held r'.columns).n (held r'.columns).tableau q).v q 0)
  unit_reached q a h =
      subst (λ (d : ℕ). IsUnit d (get_or (column (held r'.columns).n (held r'.columns).tableau q).v q 0)) (sym a.modulus)
      (subst (λ (n : ℕ). IsUnit (held r.columns).d (get_or (column n (held r'.columns).tableau q).v q 0)) (sym a.width)
      (subst (λ (u : List Pauli). IsUnit (held r.columns).d (get_or (column (held r.columns).n u q).v q 0)) (sym (does_from a.does).tableau) h))

  -- what is done from r' on is done with r's d and n
  pub as_before : {k l : ℕ} {f g : ℕ → ℕ → State → State} {r'' : Reduction C} → Did held k f r r' → Did held l g r' r''
      → Does (held r.columns).d l (g (held r.columns).d (held r.columns).n) (held r'.columns).tableau r'.out.now r'.count (held r''.columns).tableau r''.out.now r''.count
  as_before {l = l} {g = g} {r'' = r''} a b =
      subst (λ (d : ℕ). Does d l (g d (held r.columns).n) (held r'.columns).tableau r'.out.now r'.count (held r''.columns).tableau r''.out.now r''.count) a.modulus
      (subst (λ (n : ℕ). Does (held r'.columns).d l (g (held r'.columns).d n) (held r'.columns).tableau r'.out.now r'.count (held r''.columns).tableau r''.out.now r''.count) a.width b.does)

  -- one step after another
  pub did_then : {k l : ℕ} {f g : ℕ → ℕ → State → State} {r'' : Reduction C} → Did held k f r r' → Did held l g r' r'' → Did held (k + l) (λ d n s. g d n (f d n s)) r r''
  did_then a b = record { modulus = b.modulus ∙ a.modulus; width = b.width ∙ a.width; output = b.output ∙ a.output; size = b.size ∙ a.size; does = does_then a.does (as_before a b) }

-- ---- loops: the steps for the numbers from k on, before the turn of j
module _ {C : Type 0} {held : C → Held} {r : Reduction C} where
  pub turns_none : (f : ℕ → ℕ → ℕ → State → State) (a k : ℕ) → Did held a (λ d n. up_to (f d n) k k) r r
  turns_none f a k = record { modulus = refl; width = refl; output = refl; size = refl; does = loop_none _ a k }

  pub turns_more : {r' r'' : Reduction C} {m a b : ℕ} (f : ℕ → ℕ → ℕ → State → State) (k j : ℕ) → k ≤ j → r''.count ≤ r.count + b
      → Did held a (λ d n. up_to (f d n) k j) r r' → Did held m (λ d n. f d n j) r' r'' → Did held b (λ d n. up_to (f d n) k (j + 1)) r r''
  turns_more f k j h l x y = record {
    modulus = y.modulus ∙ x.modulus;
    width = y.width ∙ x.width;
    output = y.output ∙ x.output;
    size = y.size ∙ x.size;
    does = loop_more (f (held r.columns).d (held r.columns).n) k j h l x.does (as_before x y);
  }
