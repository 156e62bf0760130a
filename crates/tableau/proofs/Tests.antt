-- Pairing and parity as tests that a program can run: a loop over j and in it one over k > j, and a loop over j. They decide `Pairing` and `Even`.
use mathlib.Core.Path.{◌≡◌, refl, sym, subst}
use mathlib.Core.List.{List}
use mathlib.Core.Bool.{Bool, true, false}
use mathlib.Core.Logic.{◌↔◌, ◌⊎◌, inl, inr}
use Prim.Native.Nat.{ℕ, zero, suc, ◌+◌, ◌*◌, ◌-◌, ◌≤◌, ◌<◌}
use native.Mathlib.Omega.{arith}
use lib.Dec.{T, eqb, eqb→eq, eqb_refl}
use Rattle.arith.specs.Refusals.{or_else, pairing_of, parity_of}
use Rattle.arith.proofs.Cases.{by_eq, and_l, and_r, and_both}
use Rattle.pauli.specs.Pauli.{Pauli, comm, parity}
use Rattle.tableau.specs.Tableau.{column, paired, up_from, Pairing, Even, Sound}
use Rattle.tableau.specs.Soundness.{all, pair_passes, later_pass, pairing_holds, even_passes, parity_holds, soundness_of}

-- ---- the loops
all_to : (test : ℕ → Bool) (a m : ℕ) → T (all test (up_from a m)) → (i : ℕ) → a ≤ i → i < a + m → T (test i)
all_to test a zero h i l k = absurd (omega arith)
all_to test a (suc m) h i l k = by_eq i a
    (λ e. subst (λ (x : ℕ). T (test x)) (sym e) (and_l (test a) (all test (up_from (suc a) m)) h))
    (λ ne. all_to test (suc a) m (and_r (test a) (all test (up_from (suc a) m)) h) i (omega arith) (omega arith))

all_from : (test : ℕ → Bool) (a m : ℕ) → ((i : ℕ) → a ≤ i → i < a + m → T (test i)) → T (all test (up_from a m))
all_from test a zero h = tt
all_from test a (suc m) h = and_both (test a) (all test (up_from (suc a) m)) (h a (omega arith) (omega arith)) (all_from test (suc a) m (λ i l k. h i (omega arith) (omega arith)))

eqb_of : {x y : ℕ} → x ≡ y → T (eqb x y)
eqb_of {x} e = subst (λ (z : ℕ). T (eqb x z)) e (eqb_refl x)

-- ---- what the number says, where P is pairing and E is parity
pub record Says (P E : Type 0) (r : ℕ) : Type 0 where
  pub seven : (r ≡ 7) ↔ ¬ P
  pub eight : (r ≡ 8) ↔ (P × ¬ E)
  pub accepted : (r ≡ 0) ↔ (P × E)
  pub refused : ((r ≡ 7) ⊎ (r ≡ 8)) ↔ ¬ (P × E)

says : {P E : Type 0} (b c : Bool) → T b ↔ P → T c ↔ E → Says P E (or_else (pairing_of b) (parity_of c))
unfolding pairing_of parity_of
says true true p e = record {
  seven = (λ q. absurd (omega arith), λ f. absurd (f (p.0 tt)));
  eight = (λ q. absurd (omega arith), λ f. absurd (f.1 (e.0 tt)));
  accepted = (λ q. (p.0 tt, e.0 tt), λ y. refl);
  refused = (λ q. absurd (neither 0 refl q), λ f. absurd (f (p.0 tt, e.0 tt)));
}
  where
    neither : (r : ℕ) → r ≡ 0 → (r ≡ 7) ⊎ (r ≡ 8) → ⊥
    neither r z (inl q) = omega arith
    neither r z (inr q) = omega arith
says true false p e = record {
  seven = (λ q. absurd (omega arith), λ f. absurd (f (p.0 tt)));
  eight = (λ q. (p.0 tt, e.1), λ y. refl);
  accepted = (λ q. absurd (omega arith), λ y. absurd (e.1 y.1));
  refused = (λ q y. e.1 y.1, λ f. inr refl);
}
says false c p e = record {
  seven = (λ q. p.1, λ f. refl);
  eight = (λ q. absurd (omega arith), λ y. absurd (p.1 y.0));
  accepted = (λ q. absurd (omega arith), λ y. absurd (p.1 y.0));
  refused = (λ q y. p.1 y.0, λ f. inl refl);
}

none_left : (b c : Bool) → ¬ ((or_else (pairing_of b) (parity_of c) ≡ 7) ⊎ (or_else (pairing_of b) (parity_of c) ≡ 8)) → or_else (pairing_of b) (parity_of c) ≡ 0
unfolding pairing_of parity_of
none_left true true f = refl
none_left true false f = absurd (f (inr refl))
none_left false c f = absurd (f (inl refl))

module _ {d n : ℕ} {t : List Pauli} where
  pub pairing_test : T (pairing_holds d n t) ↔ Pairing d n t
  pairing_test = (
    λ h. record {
      pairs = λ j k l m. eqb→eq (comm d (column n t j) (column n t k)) (paired d n j k)
          (all_to (pair_passes d n t j) (suc j) (2 * n - suc j) (all_to (later_pass d n t) 0 (2 * n) h j (omega arith) (omega arith)) k l (omega arith));
    },
    λ p. all_from (later_pass d n t) 0 (2 * n) (λ j l m. all_from (pair_passes d n t j) (suc j) (2 * n - suc j) (λ k l' m'. eqb_of (p.pairs j k l' (omega arith)))),
  )

  pub parity_test : T (parity_holds d n t) ↔ Even d n t
  parity_test = (
    λ h. record { even = λ j l. eqb→eq (parity d (column n t j)) 0 (all_to (even_passes d n t) 0 (2 * n) h j (omega arith) (omega arith)) },
    λ p. all_from (even_passes d n t) 0 (2 * n) (λ j l m. eqb_of (p.even j (omega arith))),
  )

  pub soundness_says : Says (Pairing d n t) (Even d n t) (soundness_of d n t)
  soundness_says = says (pairing_holds d n t) (parity_holds d n t) pairing_test parity_test

  -- what holds once 7 and 8 are past
  pub sound_good : soundness_of d n t ≡ 0 → Sound d n t
  sound_good e = let y = soundness_says.accepted.0 e in record { pairing = y.0; parities = y.1 }

-- there is no other number: where it is neither 7 nor 8 it is 0
pub neither_none : (d n : ℕ) (t : List Pauli) → ¬ ((soundness_of d n t ≡ 7) ⊎ (soundness_of d n t ≡ 8)) → soundness_of d n t ≡ 0
neither_none d n t = none_left (pairing_holds d n t) (parity_holds d n t)
