-- Laws of the refusals' numbers: what is known past a check, and what a call hands back where one refuses. Assumes nothing.
use mathlib.Core.Path.{◌≡◌, refl, sym, ◌∙◌, ap}
use mathlib.Core.List.{List}
use Rattle.std.specs.Prelude.{Result, Ok, Err}
use mathlib.Core.Logic.{◌≢◌}
use mathlib.Core.Bool.{Bool, true, false, ◌&&◌}
use Prim.Native.Nat.{ℕ, zero, suc, ◌*◌, ◌/◌, ◌%◌, ◌≤◌, ◌<◌}
use native.Mathlib.Omega.{arith}
use lib.Dec.{leb, eqb}
use borrow.Author.Tests.{leb-true, ltb-true, eqb-true}
use Rattle.arith.specs.Bytes.{front}
use Rattle.arith.specs.Answers.{Answered, Written}
use Rattle.arith.specs.Refusals.{refusal_number, number_of, or_else, unless, kept, unless_holds, dimension_of, width_of, given_of, size_of, whole_of, list_size_of, room_of, range_of, row_of, pairing_of, parity_of, Dimension, Width}
use Rattle.arith.specs.declared.checks.Refusal.{Refusal}
use Rattle.arith.specs.declared.checks.Refusal.TheVariants as refusal
use Rattle.arith.specs.declared.checks.Answer.{Answer}

-- ---- the answer r of a check that found x
-- it is Ok: x is 0
pub good : {A : Type 0} (x : ℕ) {r : Result A Refusal} {a : A} → number_of r ≡ x → r ≡ Ok a → x ≡ 0
good x e g = sym e ∙ ap number_of g

pub passes : {A : Type 0} (a : A) (x : ℕ) → x ≡ 0 → number_of {A = A} (Ok a) ≡ x
passes a x e = sym e

-- it refuses: z is the first refusal, whatever comes after, a result is 0, and an output is as it was
pub record Stops {A : Type 0} (r : Result A Refusal) (z : ℕ) : Type 0 where
  pub same : number_of r ≡ z
  pub value : (v : ℕ) → 0 ≡ unless z v
  pub out : (old new : List ℕ) → old ≡ kept z old new

-- no refusal has the number 0
refusal_number_lem : (k : Refusal) → 0 < refusal_number k
refusal_number_lem refusal.Dimension = omega arith
refusal_number_lem refusal.Width = omega arith
refusal_number_lem refusal.Length = omega arith
refusal_number_lem refusal.Room = omega arith
refusal_number_lem refusal.Range = omega arith
refusal_number_lem refusal.Row = omega arith
refusal_number_lem refusal.Pairing = omega arith
refusal_number_lem refusal.Parity = omega arith
refusal_number_lem refusal.Text = omega arith

-- so the answer of a check that refuses has another
pub not_zero : {A : Type 0} {k : Refusal} {r : Result A Refusal} → number_of r ≡ 0 → r ≡ Err k → ⊥
not_zero {k = k} e g = let z = sym (ap number_of g) ∙ e in omega (arith, z, refusal_number_lem k)

pub stop_last : {A : Type 0} (x : ℕ) {k : Refusal} {r : Result A Refusal} → number_of r ≡ x → r ≡ Err k → Stops r x
stop_last zero e g = absurd (not_zero e g)
stop_last (suc x) e g = record { same = e; value = λ v. refl; out = λ old new. refl }

pub stop : {A : Type 0} (x y : ℕ) {k : Refusal} {r : Result A Refusal} → number_of r ≡ x → r ≡ Err k → Stops r (or_else x y)
stop zero y e g = absurd (not_zero e g)
stop (suc x) y e g = stop_last (suc x) e g

-- its number isn't 0
pub stops_some : {A : Type 0} {r : Result A Refusal} {z : ℕ} → Stops r z → z ≢ 0
stops_some {z = z} s e = let o : ◌≡◌ {A = ℕ} 0 1 = s.value 1 ∙ ap (λ (x : ℕ). unless x 1) e in omega arith

-- what a refused call promises
pub stop_answered : {A : Type 0} {r : Result A Refusal} {z : ℕ} {a : Answer} (v : ℕ) → Stops r z → (a.number ≡ number_of r) × (a.value ≡ 0) → Answered z v a
stop_answered v s e = record { number = e.0 ∙ s.same; value = e.1 ∙ s.value v }

pub stop_written : {A : Type 0} {r : Result A Refusal} {z x : ℕ} (answer old : List ℕ) → Stops r z → x ≡ number_of r → Written z answer old old x
stop_written answer old s e = record { number = e ∙ s.same; out = s.out old (front answer old) }

-- what an accepted call promises
pub answered : {z v : ℕ} {a : Answer} → z ≡ 0 → a.number ≡ 0 → a.value ≡ v → Answered z v a
answered e f g = record { number = f ∙ sym e; value = rw e g }

pub written : {z x : ℕ} {answer old new : List ℕ} → z ≡ 0 → x ≡ 0 → new ≡ front answer old → Written z answer old new x
written e f g = record { number = f ∙ sym e; out = rw e g }

-- ---- several refusals
pub or_else_none : (a b : ℕ) → or_else a b ≡ 0 → (a ≡ 0) × (b ≡ 0)
or_else_none zero b e = (refl, e)
or_else_none (suc a) b e = absurd (omega (arith, e))

pub or_else_skip : {a : ℕ} (b : ℕ) → a ≡ 0 → or_else a b ≡ b
or_else_skip b e = rw e

-- a second refusal counts only where the first is past
pub or_else_past : (a : ℕ) {b c : ℕ} → (a ≡ 0 → b ≡ c) → or_else a b ≡ or_else a c
or_else_past zero h = h refl
or_else_past (suc a) h = refl

pub or_else_last : (a : ℕ) → or_else a 0 ≡ a
or_else_last zero = refl
or_else_last (suc a) = refl

pub or_else_assoc : (a b c : ℕ) → or_else (or_else a b) c ≡ or_else a (or_else b c)
or_else_assoc zero b c = refl
or_else_assoc (suc a) b c = refl

-- ---- a call that tests in two parts: the first refuses; it has passed, and the second refuses, or answers
pub stop_first : {A : Type 0} {z : ℕ} (x y : ℕ) {k : Refusal} {r : Result A Refusal} → z ≡ or_else x y → number_of r ≡ x → r ≡ Err k → Stops r z
stop_first x y s e g = rw s (stop x y e g)

pub stop_second : {A : Type 0} {z : ℕ} (x y : ℕ) {k : Refusal} {r : Result A Refusal} → z ≡ or_else x y → x ≡ 0 → number_of r ≡ y → r ≡ Err k → Stops r z
stop_second x y s e f g = rw (s ∙ or_else_skip y e) (stop_last y f g)

pub written_second : {z r : ℕ} (x y : ℕ) {answer old new : List ℕ} → z ≡ or_else x y → x ≡ 0 → Written y answer old new r → Written z answer old new r
written_second x y s e w = rw (s ∙ or_else_skip y e) w

-- ---- one test: it fails, and the refusal has its number; or it holds
pub test_refused : (k : Refusal) (test : Bool) → test ≡ false → refusal_number k ≡ unless_holds k test
test_refused k test e = rw e

pub test_passed : (k : Refusal) (test : Bool) → test ≡ true → 0 ≡ unless_holds k test
test_passed k test e = rw e

-- ---- what holds where nothing is refused
pub held : (k : Refusal) (test : Bool) → unless_holds k test ≡ 0 → test ≡ true
held k true e = refl
held k false e = absurd (omega (arith, e, refusal_number_lem k))

pub both_held : (a b : Bool) → (a && b) ≡ true → (a ≡ true) × (b ≡ true)
both_held true b e = (refl, e)
both_held false b e = (e, cc)

pub dimension_good : {d : ℕ} → dimension_of d ≡ 0 → Dimension d
unfolding dimension_of
dimension_good {d} e = let b = both_held (leb 2 d) (leb d 1024) (held refusal.Dimension _ e) in record { d_low = leb-true 2 d b.0; d_high = leb-true d 1024 b.1 }

pub width_good : {n : ℕ} → width_of n ≡ 0 → Width n
unfolding width_of
width_good {n} e = let b = both_held (leb 1 n) (leb n 16) (held refusal.Width _ e) in record { n_low = leb-true 1 n b.0; n_high = leb-true n 16 b.1 }

-- d and n, once 1 and 2 are past
pub record Given (d n : ℕ) : Type 0 where
  pub dimension : Dimension d
  pub width : Width n

pub given_good : {d n : ℕ} → given_of d n ≡ 0 → Given d n
unfolding given_of
given_good {d} {n} e = let z = or_else_none (dimension_of d) (width_of n) e in record { dimension = dimension_good z.0; width = width_good z.1 }

pub size_good : {want have : ℕ} → size_of want have ≡ 0 → have ≡ want
unfolding size_of
size_good {want} {have} e = eqb-true have want (held refusal.Length _ e)

pub whole_good : (one most have : ℕ) → whole_of one most have ≡ 0 → (have % one ≡ 0) × (have / one ≤ most)
unfolding whole_of
whole_good one most have e = let b = both_held (eqb (have % one) 0) (leb (have / one) most) (held refusal.Length _ e) in (eqb-true (have % one) 0 b.0, leb-true (have / one) most b.1)

pub list_size_good : {have : ℕ} → list_size_of have ≡ 0 → (have % 8 ≡ 0) × (have ≤ 8 * 4096)
unfolding list_size_of
list_size_good {have} e = let w = whole_good 8 4096 have e in (w.0, omega (arith, w))

pub room_good : {want have : ℕ} → room_of want have ≡ 0 → want ≤ have
unfolding room_of
room_good {want} {have} e = leb-true want have (held refusal.Room _ e)

pub range_good : {bound x : ℕ} → range_of bound x ≡ 0 → x < bound
unfolding range_of
range_good {bound} {x} e = ltb-true x bound (held refusal.Range _ e)

pub row_good : (legal : Bool) → row_of legal ≡ 0 → legal ≡ true
unfolding row_of
row_good legal e = held refusal.Row legal e

pub pairing_good : (holds : Bool) → pairing_of holds ≡ 0 → holds ≡ true
unfolding pairing_of
pairing_good holds e = held refusal.Pairing holds e

pub parity_good : (holds : Bool) → parity_of holds ≡ 0 → holds ≡ true
unfolding parity_of
parity_good holds e = held refusal.Parity holds e
