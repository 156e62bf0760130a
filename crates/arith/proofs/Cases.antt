-- Cases on two numbers: equal or not, less or not; two tests at once. `eqb_case` and `ltb_case` are for a statement about the test itself, `by_eq` and `by_less` for any other.
use mathlib.Core.Path.{◌≡◌, subst}
use mathlib.Core.Bool.{Bool, true, false, not, ◌&&◌}
use mathlib.Core.Logic.{◌≢◌}
use Prim.Native.Nat.{ℕ, ◌≤◌, ◌<◌}
use lib.Dec.{T, T_not, eqb, eqb→eq, eqb_refl, ltb, ltb→lt, nltb→le}

pub bool_case : (P : Bool → Type 0) (b : Bool) → (T b → P true) → (T (not b) → P false) → P b
bool_case P true f g = f tt
bool_case P false f g = g tt

ne_of_neqb : (i j : ℕ) → T (not (eqb i j)) → i ≢ j
ne_of_neqb i j t e = T_not (eqb i j) t (subst (λ (k : ℕ). T (eqb i k)) e (eqb_refl i))

pub eqb_case : (P : Bool → Type 0) (i j : ℕ) → (i ≡ j → P true) → (i ≢ j → P false) → P (eqb i j)
eqb_case P i j f g = bool_case P (eqb i j) (λ t. f (eqb→eq i j t)) (λ t. g (ne_of_neqb i j t))

pub ltb_case : (P : Bool → Type 0) (i j : ℕ) → (i < j → P true) → (j ≤ i → P false) → P (ltb i j)
ltb_case P i j f g = bool_case P (ltb i j) (λ t. f (ltb→lt i j t)) (λ t. g (nltb→le i j t))

pub by_eq : {P : Type 0} (i j : ℕ) → (i ≡ j → P) → (i ≢ j → P) → P
by_eq {P} i j f g = eqb_case (λ b. P) i j f g

pub by_less : {P : Type 0} (i j : ℕ) → (i < j → P) → (j ≤ i → P) → P
by_less {P} i j f g = ltb_case (λ b. P) i j f g

-- ---- a test and another one
pub and_l : (a b : Bool) → T (a && b) → T a
and_l true b t = tt
and_l false b t = t

pub and_r : (a b : Bool) → T (a && b) → T b
and_r true b t = t
and_r false b t = absurd t

pub and_both : (a b : Bool) → T a → T b → T (a && b)
and_both true b s t = t
and_both false b s t = s
