-- Ticks of a list: the first tick after those of a row's qudits, what they are bounded by, and lists put behind each other. Every law but the last holds for all lists of rows, legal or not.
use mathlib.Core.Path.{◌≡◌, refl, ap, ◌∙◌}
use mathlib.Core.Bool.{Bool, true, false, cond, or-true, false≢true}
use mathlib.Core.List.{List, [], ◌∷◌, ◌++◌, map}
use Prim.Native.Nat.{ℕ, zero, suc, ◌+◌, ◌≤◌, ◌<◌, max}
use native.Mathlib.Nat.{le_of_suc-le-suc, not-suc-le-zero}
use native.Mathlib.Omega.{arith}
use lib.ListN.{length}
use borrow.Author.Tests.{eq-eqb, ne_eqb}
use Rattle.arith.specs.Bytes.{tab}
use Rattle.arith.proofs.Cases.{by_eq}
use Rattle.gates.specs.Row.{Row, F, S, A, M, X, Z, C, W, Legal, AllLegal, none, more, qudits_of, among, uses}
use Rattle.gates.specs.Ticks.{largest, tick_of, after_row, last_ticks, row_ticks, unused, ticks}
use Rattle.gates.specs.Schedules.{rows_on, Every, Apart, Separate}

-- ---- the largest of some numbers
largest_append : (xs ys : List ℕ) → largest (xs ++ ys) ≡ max (largest xs) (largest ys)
unfolding largest
largest_append [] ys = omega arith
largest_append (x ∷ xs) ys = omega (arith, largest_append xs ys)

module _ (f : ℕ → ℕ) where
  largest_in : (qs : List ℕ) (q : ℕ) → among q qs ≡ true → f q ≤ largest (map f qs)
  unfolding largest
  largest_in [] q e = absurd (false≢true e)
  largest_in (i ∷ qs) q e = by_eq q i (λ same. omega (arith, ap f same)) (λ ne. omega (arith, largest_in qs q (rw (ne_eqb q i ne) at e)))

  largest_most : (qs : List ℕ) (m : ℕ) → ((q : ℕ) → among q qs ≡ true → f q ≤ m) → largest (map f qs) ≤ m
  unfolding largest
  largest_most [] m h = omega arith
  largest_most (i ∷ qs) m h = omega (arith, h i (rw (eq-eqb i i refl)), largest_most qs m (λ q e. h q (rw (e, or-true))))

-- ---- "the first tick after the last one used by any of its qudits": after each of those, and there is no earlier one
module _ (last : ℕ → ℕ) (r : Row) where
  pub tick_after : (q : ℕ) → uses r q ≡ true → last q < tick_of last r
  unfolding tick_of
  tick_after q e = omega (arith, largest_in last (qudits_of r) q e)

  pub tick_first : (t : ℕ) → 1 ≤ t → ((q : ℕ) → uses r q ≡ true → last q < t) → tick_of last r ≤ t
  unfolding tick_of
  tick_first zero l h = elim l [ ]
  tick_first (suc t) l h = omega (arith, largest_most last (qudits_of r) t (λ q e. omega (arith, h q e)))

  pub tick_positive : 1 ≤ tick_of last r
  unfolding tick_of
  tick_positive = omega arith

  -- a qudit was last used in the row's tick, or as before
  pub after_row_lem : (q : ℕ) (P : ℕ → Type 0) → (uses r q ≡ true → P (tick_of last r)) → (uses r q ≡ false → P (last q)) → P (after_row last r q)
  unfolding after_row
  after_row_lem q P f g = decided (uses r q) refl
    where
      decided : (b : Bool) → uses r q ≡ b → P (cond b (tick_of last r) (last q))
      decided true e = f e
      decided false e = g e

  pub after_used : (q : ℕ) → uses r q ≡ true → after_row last r q ≡ tick_of last r
  unfolding after_row
  after_used q e = rw e

  -- one tick more at least for a qudit of the row
  pub after_rises : (q : ℕ) → last q + cond (uses r q) 1 0 ≤ after_row last r q
  unfolding after_row
  after_rises q = decided (uses r q) refl
    where
      decided : (b : Bool) → uses r q ≡ b → last q + cond b 1 0 ≤ cond b (tick_of last r) (last q)
      decided true e = omega (arith, tick_after q e)
      decided false e = omega arith

-- ---- one list behind another
pub last_append : (rs qs : List Row) (last : ℕ → ℕ) → last_ticks last (rs ++ qs) ≡ last_ticks (last_ticks last rs) qs
unfolding last_ticks
last_append [] qs last = refl
last_append (r ∷ rs) qs last = last_append rs qs (after_row last r)

pub ticks_append : (rs qs : List Row) (last : ℕ → ℕ) → row_ticks last (rs ++ qs) ≡ row_ticks last rs ++ row_ticks (last_ticks last rs) qs
unfolding row_ticks last_ticks
ticks_append [] qs last = refl
ticks_append (r ∷ rs) qs last = ap (λ (l : List ℕ). tick_of last r ∷ l) (ticks_append rs qs (after_row last r))

pub highest_append : (rs qs : List Row) (last : ℕ → ℕ) → largest (row_ticks last (rs ++ qs)) ≡ max (largest (row_ticks last rs)) (largest (row_ticks (last_ticks last rs) qs))
highest_append rs qs last = ap largest (ticks_append rs qs last) ∙ largest_append (row_ticks last rs) (row_ticks (last_ticks last rs) qs)

-- ---- a qudit's last tick
-- it rises with each row that the qudit takes part in
last_rises : (rs : List Row) (last : ℕ → ℕ) (q : ℕ) → last q + rows_on q rs ≤ last_ticks last rs q
unfolding last_ticks
last_rises [] last q = omega arith
last_rises (r ∷ rs) last q = omega (arith, after_rises last r q, last_rises rs (after_row last r) q)

-- and is that of a row, or as before the first
last_highest : (rs : List Row) (last : ℕ → ℕ) (q : ℕ) → last_ticks last rs q ≤ max (last q) (largest (row_ticks last rs))
unfolding last_ticks row_ticks largest
last_highest [] last q = omega arith
last_highest (r ∷ rs) last q =
    let now : after_row last r q ≤ max (last q) (tick_of last r) = after_row_lem last r q (λ x. x ≤ max (last q) (tick_of last r)) (λ e. omega arith) (λ e. omega arith) in
    omega (arith, now, last_highest rs (after_row last r) q)

pub last_within : (rs : List Row) (q : ℕ) → last_ticks unused rs q ≤ ticks rs
unfolding ticks
last_within rs q = omega (arith, last_highest rs unused q)

-- ---- bounds
-- at most as many ticks as rows
rows_most : (rs : List Row) (last : ℕ → ℕ) (m : ℕ) → ((q : ℕ) → last q ≤ m) → largest (row_ticks last rs) ≤ m + length rs
unfolding row_ticks largest
rows_most [] last m h = omega arith
rows_most (r ∷ rs) last m h =
    let now : tick_of last r ≤ m + 1 = tick_first last r (m + 1) (omega arith) (λ q e. omega (arith, h q)) in
    omega (arith, rows_most rs (after_row last r) (m + 1) (λ q. after_row_lem last r q (λ x. x ≤ m + 1) (λ e. now) (λ e. omega (arith, h q))))

pub ticks_most : (rs : List Row) → ticks rs ≤ length rs
unfolding ticks
ticks_most rs = omega (arith, rows_most rs unused 0 (λ q. omega arith))

-- at least as many as the rows that any one qudit takes part in
pub ticks_part : (q : ℕ) (rs : List Row) → rows_on q rs ≤ ticks rs
ticks_part q rs = omega (arith, last_rises rs unused q, last_within rs q)

-- a list put behind another takes at most the sum: what runs c ticks later for each qudit ends at most c ticks later
behind : (rs : List Row) (last base : ℕ → ℕ) (c : ℕ) → ((q : ℕ) → last q ≤ c + base q) → largest (row_ticks last rs) ≤ c + largest (row_ticks base rs)
unfolding row_ticks largest after_row
behind [] last base c h = omega arith
behind (r ∷ rs) last base c h = omega (arith, now, behind rs (after_row last r) (after_row base r) c then)
  where
    now : tick_of last r ≤ c + tick_of base r
    now = tick_first last r (c + tick_of base r) (omega (arith, tick_positive base r)) (λ q e. omega (arith, h q, tick_after base r q e))

    then : (q : ℕ) → after_row last r q ≤ c + after_row base r q
    then q = decided (uses r q)
      where
        decided : (b : Bool) → cond b (tick_of last r) (last q) ≤ c + cond b (tick_of base r) (base q)
        decided true = now
        decided false = h q

pub ticks_sum : (rs qs : List Row) → ticks (rs ++ qs) ≤ ticks rs + ticks qs
unfolding ticks
ticks_sum rs qs = omega (arith, highest_append rs qs unused, behind qs (last_ticks unused rs) unused (largest (row_ticks unused rs)) (λ q. omega (arith, last_highest rs unused q)))

-- ---- rows on pairwise different qudits take 1 tick
-- no qudit of the row was used before
abbrev Fresh : (ℕ → ℕ) → Row → Type 0
Fresh last r = (q : ℕ) → uses r q ≡ true → last q ≡ 0

fresh_next : (rs : List Row) (last : ℕ → ℕ) (r : Row) → Every (Apart r) rs → Every (Fresh last) rs → Every (Fresh (after_row last r)) rs
fresh_next [] last r a f = tt
fresh_next (s ∷ rs) last r a f = (λ q e. after_row_lem last r q (λ x. x ≡ 0) (λ u. absurd (a.0 q u e)) (λ u. f.0 q e), fresh_next rs last r a.1 f.1)

separate_one : (rs : List Row) (last : ℕ → ℕ) → Separate rs → Every (Fresh last) rs → largest (row_ticks last rs) ≤ 1
unfolding row_ticks largest
separate_one [] last a f = omega arith
separate_one (r ∷ rs) last a f = omega (arith, tick_first last r 1 (omega arith) (λ q e. omega (arith, f.0 q e)), separate_one rs (after_row last r) a.1 (fresh_next rs last r a.0 f.1))

all_fresh : (rs : List Row) → Every (Fresh unused) rs
all_fresh [] = tt
all_fresh (r ∷ rs) = (λ q e. refl, all_fresh rs)

pub ticks_separate : (r : Row) (rs : List Row) → Separate (r ∷ rs) → ticks (r ∷ rs) ≡ 1
unfolding ticks row_ticks largest
ticks_separate r rs a =
    let most : largest (row_ticks unused (r ∷ rs)) ≤ 1 = separate_one (r ∷ rs) unused a (all_fresh (r ∷ rs)) in
    omega (arith, most, tick_positive unused r)

-- ---- rows that all share one qudit take as many ticks as rows
all_part : (q : ℕ) (rs : List Row) → Every (λ r. uses r q ≡ true) rs → rows_on q rs ≡ length rs
all_part q [] a = refl
all_part q (r ∷ rs) a = rw a.0 (omega (arith, all_part q rs a.1))

pub ticks_shared : (q : ℕ) (rs : List Row) → Every (λ r. uses r q ≡ true) rs → ticks rs ≡ length rs
ticks_shared q rs a = omega (arith, ticks_most rs, ticks_part q rs, all_part q rs a)

-- ---- on n qudits the highest tick used is the highest of the qudits' last ticks
tab_in : (f : ℕ → ℕ) (n q : ℕ) → q < n → f q ≤ largest (tab f n)
unfolding tab largest
tab_in f zero q h = absurd (not-suc-le-zero h)
tab_in f (suc n) zero h = omega arith
tab_in f (suc n) (suc q) h = omega (arith, tab_in (λ i. f (suc i)) n q (le_of_suc-le-suc h))

tab_most : (f : ℕ → ℕ) (n m : ℕ) → ((q : ℕ) → f q ≤ m) → largest (tab f n) ≤ m
unfolding tab largest
tab_most f zero m h = omega arith
tab_most f (suc n) m h = omega (arith, h 0, tab_most (λ i. f (suc i)) n m (λ q. h (suc q)))

-- the first qudit of a legal row is one of n
first_used : (d n : ℕ) (r : Row) → Legal d n r → (q : ℕ) × ((q < n) × (uses r q ≡ true))
first_used d n (F i k) l = (i, (l.qudit, rw (eq-eqb i i refl)))
first_used d n (S i k) l = (i, (l.qudit, rw (eq-eqb i i refl)))
first_used d n (A i j k) l = (i, (l.0.from_qudit, rw (eq-eqb i i refl)))
first_used d n (M i k) l = (i, (l.1.qudit, rw (eq-eqb i i refl)))
first_used d n (X i k) l = (i, (l.qudit, rw (eq-eqb i i refl)))
first_used d n (Z i k) l = (i, (l.qudit, rw (eq-eqb i i refl)))
first_used d n (C i j k) l = (i, (l.0.from_qudit, rw (eq-eqb i i refl)))
first_used d n (W i j) l = (i, (l.from_qudit, rw (eq-eqb i i refl)))

seen_last : {d n : ℕ} {rs : List Row} (last : ℕ → ℕ) → AllLegal d n rs → largest (row_ticks last rs) ≤ largest (tab (last_ticks last rs) n)
unfolding row_ticks last_ticks largest
seen_last last none = omega arith
seen_last {d} {n} last (more {r = r} {rs = rs} l ls) =
    let u = first_used d n r l in
    let q = u.0 in
    omega (arith, after_used last r q u.1.1, last_rises rs (after_row last r) q, tab_in (last_ticks (after_row last r) rs) n q u.1.0, seen_last (after_row last r) ls)

pub ticks_qudits : {d n : ℕ} {rs : List Row} → AllLegal d n rs → ticks rs ≡ largest (tab (last_ticks unused rs) n)
unfolding ticks
ticks_qudits {n = n} {rs = rs} legal = omega (arith, seen_last unused legal, tab_most (last_ticks unused rs) n (largest (row_ticks unused rs)) (λ q. omega (arith, last_highest rs unused q)))
