-- Weights of the reduction's undo rows: 1 for a row, 1 for a row on two qudits, 1 for a row on two given qudits, 1 for C and W, 1 for a row that does nothing.
use mathlib.Core.Bool.{Bool, cond}
use mathlib.Core.Path.{◌≡◌, refl, ap}
use mathlib.Core.List.{List, [], ◌∷◌, map}
use mathlib.Core.Logic.{◌≢◌}
use Prim.Native.Nat.{ℕ, ◌+◌, ◌*◌, ◌-◌, ◌≤◌, ◌<◌}
use native.Mathlib.Omega.{arith}
use lib.ListN.{length}
use lib.Dec.{eqb}
use Rattle.arith.proofs.Cases.{eqb_case}
use Rattle.arith.specs.Units.{inverse_of}
use Rattle.arith.proofs.Units.{inverse_twice}
use Rattle.gates.specs.Row.{Row, F, S, A, M, X, Z, C, W, Legal, AllLegal, none, more, undo}
use Rattle.synthesis.specs.Inner.Reduce.{near_power}
use Rattle.synthesis.specs.Measures.{weigh, on_pair, both, between, Busy, AllBusy, nil, cons}
use Rattle.synthesis.proofs.Steps.{near_high, near_not}
use Rattle.synthesis.proofs.Count.{Weights}

-- ---- sums over a list
pub weigh_map : (w : Row → ℕ) (f : Row → Row) (rows : List Row) → weigh w (map f rows) ≡ weigh (λ r. w (f r)) rows
weigh_map w f [] = refl
weigh_map w f (r ∷ rs) = ap (λ (x : ℕ). w (f r) + x) (weigh_map w f rs)

pub weigh_ones : (rows : List Row) → weigh (λ r. 1) rows ≡ length rows
weigh_ones [] = refl
weigh_ones (r ∷ rs) = omega (arith, weigh_ones rs)

-- ---- each row
pub ones : (d : ℕ) → 0 < d → Weights d (λ r. 1) (λ i j. 1) 1
ones d p = record {
  large = p;
  of_f = λ i. omega arith;
  of_f3 = λ i. omega arith;
  of_s = λ i k ne l. omega arith;
  of_a = λ i j k l ne. omega arith;
  of_a_back = λ i j k l ne. omega arith;
  of_m = λ i v ne. omega arith;
  of_x = λ i k ne. omega arith;
  of_z = λ i k ne. omega arith;
}

-- A rows by their qudits, and no other row: C and W, whatever they weigh, are not put
pub pair_rows : (d : ℕ) (f g a : ℕ → ℕ → ℕ) → 0 < d → ((i j : ℕ) → i < j → f i j ≤ a i j) → ((i j : ℕ) → i < j → f j i ≤ a i j) → Weights d (λ r. on_pair f g (undo d r)) a 0
pair_rows d f g a p forth back = record {
  large = p;
  of_f = λ i. omega arith;
  of_f3 = λ i. omega arith;
  of_s = λ i k ne l. omega arith;
  of_a = λ i j k l ne. forth i j l;
  of_a_back = λ i j k l ne. back i j l;
  of_m = λ i v ne. omega arith;
  of_x = λ i k ne. omega arith;
  of_z = λ i k ne. omega arith;
}

-- between two qudits p < q
both_none : (p q i j : ℕ) → (i ≡ p → j ≡ q → ⊥) → both p q i j ≡ 0
both_none p q i j h = eqb_case (λ (b : Bool). cond {A = ℕ} b (cond (eqb j q) 1 0) 0 ≡ 0) i p
    (λ e. eqb_case (λ (b : Bool). cond {A = ℕ} b 1 0 ≡ 0) j q (λ f. absurd (h e f)) (λ ne. refl)) (λ ne. refl)

both_swap : (p q i j : ℕ) → both q p j i ≡ both p q i j
both_swap p q i j = eqb_case (λ (b : Bool). cond {A = ℕ} b (cond (eqb i p) 1 0) 0 ≡ cond (eqb i p) (cond b 1 0) 0) j q
    (λ e. eqb_case (λ (b : Bool). cond {A = ℕ} b 1 0 ≡ cond b 1 0) i p (λ f. refl) (λ f. refl)) (λ ne. eqb_case (λ (b : Bool). 0 ≡ cond {A = ℕ} b 0 0) i p (λ f. refl) (λ f. refl))

pub betweens : (d p q : ℕ) → 0 < d → p < q → Weights d (λ r. on_pair (between p q) (between p q) (undo d r)) (both p q) 0
betweens d p q pos pq = pair_rows d (between p q) (between p q) (both p q) pos forth back
  where
    forth : (i j : ℕ) → i < j → both p q i j + both q p i j ≤ both p q i j
    forth i j l = omega (arith, both_none q p i j (λ (e : i ≡ q) (f : j ≡ p). omega arith))

    back : (i j : ℕ) → i < j → both p q j i + both q p j i ≤ both p q i j
    back i j l = omega (arith, both_none p q j i (λ (e : j ≡ p) (f : i ≡ q). omega arith), both_swap p q i j)

-- ---- rows that do nothing
-- 1 for a number that is m
abbrev is : ℕ → ℕ → ℕ
is m k = cond (eqb k m) 1 0

abbrev pub idle : ℕ → Row → ℕ
idle d (F i k) = is 2 k
idle d (S i k) = is d k
idle d (A i j k) = 0
idle d (M i k) = is 1 k
idle d (X i k) = 0
idle d (Z i k) = 0
idle d (C i j k) = 0
idle d (W i j) = 0

not_idle : (k m : ℕ) → k ≢ m → is m k ≤ 0
not_idle k m ne = eqb_case (λ (b : Bool). cond {A = ℕ} b 1 0 ≤ 0) k m (λ e. absurd (ne e)) (λ o. omega arith)

idle_not : (k m : ℕ) → is m k ≡ 0 → k ≢ m
idle_not k m = eqb_case (λ (b : Bool). cond {A = ℕ} b 1 0 ≡ 0 → k ≢ m) k m (λ e z. absurd (omega arith)) (λ ne z. ne)

undo_shear : (d k : ℕ) → k ≢ 0 → k < d → 2 * d - near_power d k ≢ d
undo_shear d k ne l e = near_not d k l (pos ne) (omega (arith, near_high d k l))
  where
    pos : k ≢ 0 → 1 ≤ k
    pos ne = omega arith

pub idles : (d : ℕ) → 1 < d → Weights d (λ r. idle d (undo d r)) (λ i j. 0) 0
idles d one = record {
  large = omega arith;
  of_f = λ i. omega arith;
  of_f3 = λ i. omega arith;
  of_s = λ i k ne m. not_idle (2 * d - near_power d k) d (undo_shear d k ne m);
  of_a = λ i j k l ne. omega arith;
  of_a_back = λ i j k l ne. omega arith;
  of_m = λ i v ne. not_idle (inverse_of d (inverse_of d v)) 1 (inverse_twice d v one ne);
  of_x = λ i k ne. omega arith;
  of_z = λ i k ne. omega arith;
}

busy_row : (d n : ℕ) (r : Row) → Legal d n r → idle d r ≡ 0 → Busy d r
busy_row d n (F i k) l e = idle_not k 2 e
busy_row d n (S i k) l e = idle_not k d e
busy_row d n (A i j k) l e = λ z. omega (arith, l.1)
busy_row d n (M i k) l e = idle_not k 1 e
busy_row d n (X i k) l e = λ z. omega (arith, l)
busy_row d n (Z i k) l e = λ z. omega (arith, l)
busy_row d n (C i j k) l e = λ z. omega (arith, l.1)
busy_row d n (W i j) l e = tt

pub all_busy : {d n : ℕ} {rows : List Row} → AllLegal d n rows → weigh (idle d) rows ≡ 0 → AllBusy d rows
all_busy none e = nil
all_busy {d} {n} (more {r = r} l ls) e = cons (busy_row d n r l (omega arith)) (all_busy ls (omega arith))
