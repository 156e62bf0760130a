-- The first number, counted from 0, that passes a test.
use mathlib.Core.Path.{◌≡◌, sym, ◌∙◌, subst}
use mathlib.Core.Bool.{Bool, true, false, not}
use Prim.Native.Nat.{ℕ, ◌+◌, ◌≤◌, ◌<◌}
use native.Mathlib.Omega.{arith}
use lib.Dec.{T, T_not}
use Rattle.arith.proofs.Cases.{by_eq}

pub record First (test : ℕ → Bool) (m : ℕ) : Type 0 where
  pub passes : T (test m)
  pub none_before : (j : ℕ) → j < m → T (not (test j))

-- it is at most any number that passes; so there is at most one
pub first_le : {test : ℕ → Bool} {m : ℕ} → First test m → (j : ℕ) → T (test j) → m ≤ j
first_le {test} {m} h j t = omega (arith, earlier)
  where
    earlier : ¬ (j < m)
    earlier l = T_not (test j) (h.none_before j l) t

pub first_unique : {test : ℕ → Bool} {m n : ℕ} → First test m → First test n → m ≡ n
first_unique {test} {m} {n} h k = omega (arith, first_le h n k.passes, first_le k m h.passes)

-- one more that fails, as a loop meets it
pub none_next : (test : ℕ → Bool) (k : ℕ) → ((j : ℕ) → j < k → T (not (test j))) → T (not (test k)) → (j : ℕ) → j < k + 1 → T (not (test j))
none_next test k h t j l = by_eq j k (λ q. rw q t) (λ ne. h j (omega arith))

-- a test that a program computed
pub told_true : {b r : Bool} → r ≡ b → r ≡ true → T b
told_true {b} e f = subst T (sym f ∙ e) tt

pub told_false : {b r : Bool} → r ≡ b → r ≡ false → T (not b)
told_false {b} e f = subst (λ (x : Bool). T (not x)) (sym f ∙ e) tt
