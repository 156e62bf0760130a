-- Refusal 5: the larger of two numbers, a loop over v and w, what holds once 5 is past, and what passes it. Assumes nothing.
use mathlib.Core.Path.{◌≡◌, refl, sym, ap, ap₂, ◌∙◌}
use mathlib.Core.List.{List, [], ◌∷◌}
use Prim.Native.Nat.{ℕ, zero, suc, ◌+◌, ◌*◌, ◌≤◌, ◌<◌, max}
use native.Mathlib.Numerals.{add-one}
use native.Mathlib.Omega.{arith}
use lib.ListN.{length}
use Rattle.arith.specs.Bytes.{tab}
use Rattle.arith.specs.Refusals.{or_else, unless_holds, range_of}
use Rattle.arith.specs.declared.checks.Refusal.TheVariants.{Range}
use Rattle.arith.proofs.Cases.{by_less, ltb_case}
use Rattle.arith.proofs.Refusals.{or_else_none, or_else_last, or_else_assoc, range_good as number_good}
use Rattle.arith.proofs.Passes.{range_passes, both_pass}
use Rattle.pauli.specs.Pauli.{Pauli, Below, none, more, InRange}
use Rattle.pauli.specs.Range.{bounds_of, pauli_range_of}

-- ---- a number that isn't in range
range_out : {d x : ℕ} → d ≤ x → range_of d x ≡ 5
unfolding range_of
range_out {d} {x} h = ltb_case (λ b. unless_holds Range b ≡ 5) x d (λ l. absurd (omega arith)) (λ l. refl)

-- the larger of two is the second, or the first: it is out of range where one of the two is
second_larger : (d x y : ℕ) → x < y → range_of d y ≡ or_else (range_of d x) (range_of d y)
second_larger d x y h = by_less x d
    (λ l. rw (range_passes l))
    (λ l. rw (range_out l, range_out {d = d} {x = y} (omega arith)))

first_larger : (d x y : ℕ) → y ≤ x → range_of d x ≡ or_else (range_of d x) (range_of d y)
first_larger d x y h = by_less x d
    (λ l. rw (range_passes l, range_passes {bound = d} {x = y} (omega arith)))
    (λ l. rw (range_out l))

pub range_larger : (d x y : ℕ) → range_of d (max x y) ≡ or_else (range_of d x) (range_of d y)
range_larger d x y = by_less x y
    (λ l. let e : max x y ≡ y = omega arith in rw e (second_larger d x y l))
    (λ l. let e : max x y ≡ x = omega arith in rw e (first_larger d x y l))

-- ---- a loop over two tables: no number yet, and one more of each
pub bounds_none : (d : ℕ) (f g : ℕ → ℕ) → 0 < d → range_of d 0 ≡ or_else (bounds_of d (tab f 0)) (bounds_of d (tab g 0))
unfolding tab bounds_of
bounds_none d f g h = range_passes h

last : (d : ℕ) (f : ℕ → ℕ) (i : ℕ) → bounds_of d (tab f (suc i)) ≡ or_else (bounds_of d (tab f i)) (range_of d (f i))
unfolding tab bounds_of
last d f zero = or_else_last (range_of d (f 0))
last d f (suc i) =
    ap (or_else (range_of d (f 0))) (last d (λ j. f (suc j)) i)
    ∙ sym (or_else_assoc (range_of d (f 0)) (bounds_of d (tab (λ j. f (suc j)) i)) (range_of d (f (suc i))))

-- each is 0 or 5
range_five : (d x : ℕ) → or_else (range_of d x) 5 ≡ 5
range_five d x = by_less x d (λ l. rw (range_passes l)) (λ l. rw (range_out l))

bounds_five : (d : ℕ) (xs : List ℕ) → or_else (bounds_of d xs) 5 ≡ 5
unfolding bounds_of
bounds_five d [] = refl
bounds_five d (x ∷ xs) = or_else_assoc (range_of d x) (bounds_of d xs) 5 ∙ ap (or_else (range_of d x)) (bounds_five d xs) ∙ range_five d x

exchanged : (a b x y : ℕ) → or_else b 5 ≡ 5 → or_else x 5 ≡ 5 → or_else (or_else a b) (or_else x y) ≡ or_else (or_else a x) (or_else b y)
exchanged (suc a) b x y e f = refl
exchanged zero zero x y e f = refl
exchanged zero (suc b) zero y e f = refl
exchanged zero (suc b) (suc x) y e f = e ∙ sym f

pub bounds_more : (d : ℕ) (f g : ℕ → ℕ) (i : ℕ) {r s t : ℕ} → t ≡ or_else (bounds_of d (tab f i)) (bounds_of d (tab g i)) → s ≡ or_else (range_of d (f i)) (range_of d (g i)) → r ≡ or_else t s → r ≡ or_else (bounds_of d (tab f (i + 1))) (bounds_of d (tab g (i + 1)))
bounds_more d f g i e h k =
    k ∙ ap₂ or_else e h
    ∙ exchanged (bounds_of d (tab f i)) (bounds_of d (tab g i)) (range_of d (f i)) (range_of d (g i)) (bounds_five d (tab g i)) (range_five d (f i))
    ∙ rw (add-one i) (ap₂ or_else (sym (last d f i)) (sym (last d g i)))

-- ---- what holds once 5 is past
pub bounds_good : (d : ℕ) (xs : List ℕ) → bounds_of d xs ≡ 0 → Below d xs
unfolding bounds_of
bounds_good d [] e = none
bounds_good d (x ∷ xs) e = let z = or_else_none (range_of d x) (bounds_of d xs) e in more (number_good z.0) (bounds_good d xs z.1)

pub range_good : {d n : ℕ} (p : Pauli) → length p.v ≡ n → length p.w ≡ n → pauli_range_of d p ≡ 0 → InRange d n p
unfolding pauli_range_of
range_good {d} p ev ew e =
    let x = or_else_none (range_of (2 * d) p.phase) (or_else (bounds_of d p.v) (bounds_of d p.w)) e in
    let y = or_else_none (bounds_of d p.v) (bounds_of d p.w) x.1 in
    record { phase_below = number_good x.0; v_length = ev; w_length = ew; v_below = bounds_good d p.v y.0; w_below = bounds_good d p.w y.1 }

-- ---- what passes 5
pub bounds_pass : {d : ℕ} {xs : List ℕ} → Below d xs → bounds_of d xs ≡ 0
unfolding bounds_of
bounds_pass none = refl
bounds_pass (more l b) = both_pass (range_passes l) (bounds_pass b)

pub pauli_passes : {d n : ℕ} {p : Pauli} → InRange d n p → pauli_range_of d p ≡ 0
unfolding pauli_range_of
pauli_passes r = both_pass (range_passes r.phase_below) (both_pass (bounds_pass r.v_below) (bounds_pass r.w_below))
