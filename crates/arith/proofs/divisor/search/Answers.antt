-- `arith::divisor::search` meets its contract: the tests of the code are those of the candidates at the places 2·m + 1 and 2·m + 2.
use Rattle.std.proofs.Common.{◌≡◌, ◌≢◌, ℕ, ◌+◌, ◌*◌, ◌-◌, ◌%◌, ◌<◌, Bool, eqb, sym, ◌∙◌, ap, ap₂, arith}
use mathlib.Core.Bool.{not}
use native.Mathlib.Nat.{mod-lt, mod-eq_of_lt}
use lib.Dec.{T}
use borrow.Author.Tests.{ne_eqb}
use Rattle.arith.specs.Gcd.{gcd}
use Rattle.arith.specs.Units.{fits, least_multiplier}
use Rattle.arith.proofs.Cases.{by_less}
use Rattle.arith.proofs.Candidates.{candidate_up, candidate_down}
use Rattle.arith.proofs.First.{none_next, told_true, told_false}
use Rattle.arith.proofs.Gcd.{gcd_mod, gcd_cong, gcd_order, gcd_zero_left}
use Rattle.arith.proofs.Units.{fits_at, zero_fits, least_at, least_below, still_below, sum_down}
use Rattle.arith.proofs.divisor.search.Invariants.{Tried}
use Rattle.arith.proofs.divisor.search.Goals.{Joined-divisor_is, then-divisor_is, else-divisor_is+then-divisor_is-2}
use Rattle.arith.proofs.divisor.search.Goals as goal

-- what the search is given: 0 doesn't fit
record Given (d a b wanted : ℕ) : Type 0 where
  a_below : a < d
  b_below : b < d
  common : wanted ≡ gcd (gcd a b) d
  not_zero : gcd a d ≢ wanted

given : {d a b wanted : ℕ} → (a < d) × (b < d) → (wanted ≡ gcd (gcd a b) d) × (gcd a d ≢ wanted) → Given d a b wanted
given l e = record { a_below = l.0; b_below = l.1; common = e.0; not_zero = e.1 }

module _ {d a b wanted : ℕ} (g : Given d a b wanted) where
  positive : 0 < d
  positive = omega (arith, g.a_below)

  -- with b = 0 each m fits
  b_positive : 0 < b
  b_positive = by_less 0 b (λ l. l) (λ l. absurd (g.not_zero (sym (g.common ∙ gcd_order a b d ∙ ap (λ (x : ℕ). gcd x (gcd a d)) (omega arith) ∙ gcd_zero_left (gcd a d)))))

  back_below : d - b < d
  back_below = omega (arith, b_positive, positive)

  zero_told : eqb (gcd a d) wanted ≡ fits_at d a b 0
  zero_told = ap (eqb (gcd a d)) g.common ∙ zero_fits d a b

  -- for m = 0, whatever the step
  first_kept : (step : ℕ) → a ≡ (a + 0 * step) % d
  first_kept step = sym (mod-eq_of_lt g.a_below) ∙ ap (λ (x : ℕ). x % d) (omega arith)

  tried_start : Tried d a b 0 a a
  tried_start = record {
    up_sum = first_kept b;
    down_sum = first_kept (d - b);
    none_before = λ j l. none_next (fits_at d a b) 0 (λ i k. absurd (omega arith)) (told_false zero_told (ne_eqb _ _ g.not_zero)) j (omega arith);
  }

  module _ {m up down : ℕ} (h : Tried d a b m up down) where
    up_below : up < d
    up_below = rw h.up_sum (mod-lt _ positive)

    down_below : down < d
    down_below = rw h.down_sum (mod-lt _ positive)

    -- the place of m + 1, and that of −(m + 1) where m + 1 doesn't fit
    up_place : 2 * m + 1 < d
    up_place = still_below d a b positive (2 * m + 1) h.none_before

    none_up : T (not (fits_at d a b (2 * m + 1))) → (j : ℕ) → j < 2 * m + 2 → T (not (fits_at d a b j))
    none_up t j l = none_next (fits_at d a b) (2 * m + 1) h.none_before t j (omega arith)

    down_place : T (not (fits_at d a b (2 * m + 1))) → 2 * m + 2 < d
    down_place t = still_below d a b positive (2 * m + 2) (none_up t)

    -- the tests of the code are the definition's
    up_told : {x : ℕ} → x ≡ (a + (m + 1) * b) % d → eqb (gcd x d) wanted ≡ fits_at d a b (2 * m + 1)
    up_told e = ap₂ eqb (gcd_mod d (a + (m + 1) * b) e) g.common ∙ ap (fits a b d) (sym (candidate_up d m up_place))

    down_told : {x : ℕ} → x ≡ (a + (m + 1) * (d - b)) % d → 2 * m + 2 < d → eqb (gcd x d) wanted ≡ fits_at d a b (2 * m + 2)
    down_told e l =
        ap₂ eqb (gcd_mod d (a + (m + 1) * (d - b)) e ∙ gcd_cong (sum_down d a b (m + 1) (omega (arith, g.b_below)) (omega arith))) g.common
        ∙ ap (fits a b d) (sym (candidate_down d m l))

    -- what the step by d − b keeps
    next_down : {v back y : ℕ} → v ≡ b → back ≡ d - v → ((x k : ℕ) → down ≡ (x + k * back) % d → y ≡ (x + (k + 1) * back) % d) → y ≡ (a + (m + 1) * (d - b)) % d
    next_down p q f = let e = q ∙ ap (λ (z : ℕ). d - z) p in f a m (h.down_sum ∙ ap (λ (z : ℕ). (a + m * z) % d) (sym e)) ∙ ap (λ (z : ℕ). (a + (m + 1) * z) % d) e

    -- what the code tells of m + 1
    up_fits : {x : ℕ} {t : Bool} → t ≡ eqb (gcd x d) wanted → ((y k : ℕ) → up ≡ (y + k * b) % d → x ≡ (y + (k + 1) * b) % d) → t ≡ fits_at d a b (2 * m + 1)
    up_fits e f = e ∙ up_told (f a m h.up_sum)

    found_up : T (fits_at d a b (2 * m + 1)) → m + 1 ≡ least_multiplier d a b
    found_up t = sym (candidate_up d m up_place) ∙ least_at d a b positive (2 * m + 1) (record { passes = t; none_before = h.none_before })

    found_down : T (not (fits_at d a b (2 * m + 1))) → T (fits_at d a b (2 * m + 2)) → d - (m + 1) ≡ least_multiplier d a b
    found_down s t = sym (candidate_down d m (down_place s)) ∙ least_at d a b positive (2 * m + 2) (record { passes = t; none_before = none_up s })

    tried_next : {x y : ℕ} → x ≡ (a + (m + 1) * b) % d → y ≡ (a + (m + 1) * (d - b)) % d → T (not (fits_at d a b (2 * m + 1))) → T (not (fits_at d a b (2 * m + 2))) → Tried d a b (m + 1) x y
    tried_next e f s t = record { up_sum = e; down_sum = f; none_before = λ j l. none_next (fits_at d a b) (2 * m + 2) (none_up s) t j (omega arith) }

pub below-back-requires : goal.below-back-requires
below-back-requires c = rw c.value.ensures (back_below (given c.requires.below c.requires.divisor))

pub loop-b-init : goal.loop-b-init
loop-b-init c = tried_start (given c.requires.below c.requires.divisor)

pub overflow_add-m : goal.overflow_add-m
overflow_add-m c = let p = up_place (given c.requires.below c.requires.divisor) c.loop-b.invariant in omega (arith, p)

pub overflow_sub-opposite : goal.overflow_sub-opposite
overflow_sub-opposite c = let p = up_place (given c.requires.below c.requires.divisor) c.loop-b.invariant in omega (arith, p)

pub next_sum-down-requires : goal.next_sum-down-requires
next_sum-down-requires c =
    let g = given c.requires.below c.requires.divisor in
    let back : c.below-back.result.0 < c.args.d = rw (c.below-back.ensures, c.value.ensures) (back_below g) in
    (down_below g c.loop-b.invariant, omega (arith, back, c.requires.below))

pub loop-b-smaller : goal.loop-b-smaller
loop-b-smaller c = let p = up_place (given c.requires.below c.requires.divisor) c.loop-b.invariant in omega (arith, p)

pub loop-b-preserved : goal.loop-b-preserved
loop-b-preserved c =
    let g = given c.requires.below c.requires.divisor in
    let h = c.loop-b.invariant in
    let u = told_false (up_fits g h c.divisor_is.ensures c.next_sum-up.ensures) c.if-divisor_is.false in
    let k = next_down g h c.value.ensures c.below-back.ensures c.next_sum-down.ensures in
    tried_next g h (c.next_sum-up.ensures _ _ h.up_sum) k u
    (told_false (c.divisor_is-in-loop-b.ensures ∙ down_told g h k (down_place g h u)) c.if-divisor_is-2.false)

-- what the loop yields, by either way out
answer : (c : Joined-divisor_is) → c.if-divisor_is.nearest ≡ least_multiplier c.args.d c.args.a.0 c.args.b.0
answer c =
    let g = given c.requires.below c.requires.divisor in
    let h = c.loop-b.invariant in
    let u = up_fits g h c.divisor_is.ensures c.next_sum-up.ensures in
    elim c.if-divisor_is.branch [
      | then-divisor_is w ↦ w.nearest-is ∙ found_up g h (told_true u w.if-divisor_is.true)
      | else-divisor_is+then-divisor_is-2 w ↦
          let n = told_false u w.if-divisor_is.false in
          let k = next_down g h c.value.ensures c.below-back.ensures w.next_sum-down.ensures in
          w.nearest-is ∙ found_down g h n (told_true (w.divisor_is-in-loop-b.ensures ∙ down_told g h k (down_place g h n)) w.if-divisor_is-2.true)
    ]

pub below-requires : goal.below-requires
below-requires c = rw (answer c) (least_below _ _ _ (positive (given c.requires.below c.requires.divisor)))

pub returns : goal.returns
returns c = c.below.ensures ∙ answer (goal.at.returns c).Joined-divisor_is
