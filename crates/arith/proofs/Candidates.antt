-- The candidates for the least multiplier, in their order: 0, 1, −1, 2, −2 and on, as residues. Every residue is one of them, at one place, and those that come first are nearest zero.
use mathlib.Core.Path.{◌≡◌, refl, sym, ◌∙◌, subst}
use mathlib.Core.Bool.{Bool, cond}
use Prim.Native.Nat.{ℕ, zero, suc, ◌+◌, ◌*◌, ◌-◌, ◌/◌, ◌%◌, ◌≤◌, ◌<◌}
use native.Mathlib.Nat.{mod-add-div', mod-lt}
use native.Mathlib.Omega.{arith}
use lib.Dec.{T, T_not}
use Rattle.arith.proofs.Cases.{eqb_case, ltb_case}
use Rattle.arith.proofs.First.{First, first_le}
use Rattle.arith.proofs.Pigeonhole.{Apart, Once, once}
use Rattle.arith.specs.Units.{distance, candidate, Nearest}

-- ---- what stands at each place
-- c stands at place k: 0 at place 0; then m at place 2·m − 1 and −m at place 2·m, for each m from 1
data Place (d k c : ℕ) : Type 0 where
  at_zero : k ≡ 0 → c ≡ 0 → Place d k c
  up : (m : ℕ) → k + 1 ≡ 2 * m → c ≡ m → Place d k c
  down : (m : ℕ) → 0 < m → k ≡ 2 * m → c + m ≡ d → Place d k c

place : (d k : ℕ) → k < d → Place d k (candidate d k)
unfolding candidate
place d zero l = at_zero refl refl
place d (suc k) l = eqb_case (λ b. Place d (suc k) (cond b (1 + k / 2) (d - (1 + k / 2)))) (k % 2) 0
    (λ e. up (1 + k / 2) (omega (arith, mod-add-div' k 2)) refl)
    (λ ne. down (1 + k / 2) (omega arith) (omega (arith, mod-add-div' k 2, odd ne)) (omega (arith, mod-add-div' k 2, odd ne)))
  where
    odd : ¬ (k % 2 ≡ 0) → k % 2 ≡ 1
    odd ne = let l : k % 2 < 2 = mod-lt k (omega arith) in omega arith

-- as a loop over m meets them
pub candidate_zero : (d : ℕ) → candidate d 0 ≡ 0
unfolding candidate
candidate_zero d = refl

pub candidate_up : (d m : ℕ) → 2 * m + 1 < d → candidate d (2 * m + 1) ≡ m + 1
candidate_up d m l = go (place d (2 * m + 1) l)
  where
    go : {c : ℕ} → Place d (2 * m + 1) c → c ≡ m + 1
    go (at_zero e f) = absurd (omega arith)
    go (up x e f) = omega arith
    go (down x p e f) = absurd (omega arith)

pub candidate_down : (d m : ℕ) → 2 * m + 2 < d → candidate d (2 * m + 2) ≡ d - (m + 1)
candidate_down d m l = go (place d (2 * m + 2) l)
  where
    go : {c : ℕ} → Place d (2 * m + 2) c → c ≡ d - (m + 1)
    go (at_zero e f) = absurd (omega arith)
    go (up x e f) = absurd (omega arith)
    go (down x p e f) = omega arith

-- ---- the order names every residue below d, and none twice
pub candidate_below : (d k : ℕ) → k < d → candidate d k < d
candidate_below d k l = go (place d k l)
  where
    go : {c : ℕ} → Place d k c → c < d
    go (at_zero e f) = omega arith
    go (up m e f) = omega arith
    go (down m p e f) = omega arith

candidate_apart : (d : ℕ) → Apart (candidate d) d
candidate_apart d = record { apart = λ j k i l e. go j k i l e (place d j i) (place d k l) }
  where
    go : (j k : ℕ) → j < d → k < d → {x y : ℕ} → x ≡ y → Place d j x → Place d k y → j ≡ k
    go j k i l s (at_zero e f) (at_zero e' f') = omega arith
    go j k i l s (at_zero e f) (up m e' f') = absurd (omega arith)
    go j k i l s (at_zero e f) (down m p e' f') = absurd (omega arith)
    go j k i l s (up m e f) (at_zero e' f') = absurd (omega arith)
    go j k i l s (up m e f) (up x e' f') = omega arith
    go j k i l s (up m e f) (down x p e' f') = absurd (omega arith)
    go j k i l s (down m p e f) (at_zero e' f') = absurd (omega arith)
    go j k i l s (down m p e f) (up x e' f') = absurd (omega arith)
    go j k i l s (down m p e f) (down x q e' f') = omega arith

pub candidate_once : (d r : ℕ) → r < d → Once (candidate d) d r
candidate_once d r l = once d (candidate d) (candidate_below d) (candidate_apart d) r l

-- ---- how far a candidate is from zero
data Far (d r t : ℕ) : Type 0 where
  up_from : 2 * r ≤ d → t ≡ r → Far d r t
  down_from : d < 2 * r → t ≡ d - r → Far d r t

far : (d r : ℕ) → Far d r (distance d r)
unfolding distance
far d r = ltb_case (λ b. Far d r (cond b (d - r) r)) d (2 * r) (λ h. down_from h refl) (λ h. up_from h refl)

-- t is half of k, rounded up
record HalfUp (k t : ℕ) : Type 0 where
  least : k ≤ 2 * t
  most : 2 * t ≤ k + 1

candidate_far : (d k : ℕ) → k < d → HalfUp k (distance d (candidate d k))
candidate_far d k l = go (place d k l) (far d (candidate d k))
  where
    go : {c t : ℕ} → Place d k c → Far d c t → HalfUp k t
    go (at_zero e f) (up_from h g) = record { least = omega arith; most = omega arith }
    go (at_zero e f) (down_from h g) = absurd (omega arith)
    go (up m e f) (up_from h g) = record { least = omega arith; most = omega arith }
    go (up m e f) (down_from h g) = absurd (omega arith)
    go (down m p e f) (up_from h g) = absurd (omega arith)
    go (down m p e f) (down_from h g) = record { least = omega arith; most = omega arith }

-- what comes earlier is as near or nearer
pub earlier_nearer : (d j k : ℕ) → j ≤ k → k < d → distance d (candidate d j) ≤ distance d (candidate d k)
earlier_nearer d j k h l = omega (arith, (candidate_far d j (omega arith)).most, (candidate_far d k l).least)

-- ---- the residue that passes and is nearest zero
-- there is at most one
pub nearest_unique : {test : ℕ → Bool} {d m n : ℕ} → Nearest test d m → Nearest test d n → m ≡ n
nearest_unique {test} {d} {m} {n} h k = go (far d m) (far d n) (h.nearest n k.below k.passes) (k.nearest m h.below h.passes)
  where
    go : Far d m (distance d m) → Far d n (distance d n) → distance d m ≤ distance d n → distance d n ≤ distance d m → m ≡ n
    go (up_from l e) x i j = sym (k.positive m l h.passes (omega arith))
    go (down_from l e) (up_from s f) i j = h.positive n s k.passes (omega arith)
    go (down_from l e) (down_from s f) i j = omega (arith, h.below, k.below)

-- the first candidate that passes is the one
pub first_nearest : (test : ℕ → Bool) (d k : ℕ) → k < d → First (λ j. test (candidate d j)) k → Nearest test d (candidate d k)
first_nearest test d k l h = record {
  passes = h.passes;
  below = candidate_below d k l;
  nearest = λ r i t. let z = (candidate_once d r i).hit in
      subst (λ (x : ℕ). distance d (candidate d k) ≤ distance d x) z.hits (earlier_nearer d k z.at (first_le h z.at (stands r z.at t z.hits)) z.below);
  positive = λ r i t e. taken r i t e (place d k l) (candidate_far d k l);
}
  where
    stands : (r j : ℕ) → T (test r) → candidate d j ≡ r → T (test (candidate d j))
    stands r j t e = subst (λ (x : ℕ). T (test x)) (sym e) t

    -- −r is not taken: r stands one place before it, and passes
    taken : (r : ℕ) → 2 * r ≤ d → T (test r) → distance d (candidate d k) ≡ r → Place d k (candidate d k) → HalfUp k (distance d (candidate d k)) → candidate d k ≡ r
    taken r i t e (at_zero x y) f = omega (arith, f.least, f.most)
    taken r i t e (up m x y) f = omega (arith, f.least, f.most)
    taken r i t e (down m p x y) f =
        let j = 2 * (r - 1) + 1 in
        let b : j < k = omega (arith, f.least, f.most) in
        let z : candidate d j ≡ r = candidate_up d (r - 1) (omega arith) ∙ omega (arith, f.least) in
        absurd (T_not (test (candidate d j)) (h.none_before j b) (stands r j t z))
