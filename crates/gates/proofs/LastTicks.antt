-- The loop that counts ticks: an array of the last tick used by each qudit, and the highest of all. Assumes nothing.
use mathlib.Core.Path.{◌≡◌, refl, sym, ap, subst, ◌∙◌}
use mathlib.Core.Bool.{Bool, true, false, cond, ◌||◌, or-false, or_self}
use mathlib.Core.List.{List, [], ◌∷◌, ◌++◌, map}
use Prim.Native.Nat.{ℕ, zero, suc, ◌+◌, ◌-◌, ◌≤◌, ◌<◌, max}
use native.Mathlib.Omega.{arith}
use lib.ListN.{length, get_or, set, replicate, length-set, length-map, get_or-replicate}
use lib.Seq.{get_or-set_same, get_or-set_other}
use lib.Dec.{eqb}
use borrow.Author.Tests.{eq-eqb, ne_eqb}
use Rattle.arith.specs.Bytes.{tab}
use Rattle.arith.proofs.Bytes.{tab_length}
use Rattle.arith.proofs.Cases.{by_eq}
use Rattle.gates.specs.Row.{Row, qudits_of, among, uses}
use Rattle.gates.specs.Written.{WrittenRow, row_of_kind, meant, takes_two}
use Rattle.gates.specs.Ticks.{largest, tick_of, after_row, last_ticks, row_ticks, unused, ticks}
use Rattle.gates.specs.Inner.View.{other_of}
use Rattle.gates.proofs.Run.{rows_more}
use Rattle.gates.proofs.Written.{takes_one}
use Rattle.gates.proofs.Ticks.{last_append, highest_append, last_within, ticks_most}

-- ---- the qudits of a written row: the first, and the second where its kind takes two
qudits_of_kind : (kind i j k : ℕ) → qudits_of (row_of_kind kind i j k) ≡ cond (takes_two kind) (i ∷ j ∷ []) (i ∷ [])
qudits_of_kind zero i j k = refl
qudits_of_kind (suc zero) i j k = refl
qudits_of_kind (suc (suc zero)) i j k = refl
qudits_of_kind (suc (suc (suc zero))) i j k = refl
qudits_of_kind (suc (suc (suc (suc zero)))) i j k = refl
qudits_of_kind (suc (suc (suc (suc (suc zero))))) i j k = refl
qudits_of_kind (suc (suc (suc (suc (suc (suc zero)))))) i j k = refl
qudits_of_kind (suc (suc (suc (suc (suc (suc (suc zero))))))) i j k = refl
qudits_of_kind (suc (suc (suc (suc (suc (suc (suc (suc zero)))))))) i j k = refl
qudits_of_kind (suc (suc (suc (suc (suc (suc (suc (suc (suc kind))))))))) i j k = rw (takes_one (suc (suc (suc (suc (suc (suc (suc (suc (suc kind))))))))) (λ e. omega arith) (λ e. omega arith) (λ e. omega arith))

pub qudits_meant : (w : WrittenRow) → qudits_of (meant w) ≡ cond (takes_two w.kind) ((w.first - 1) ∷ (w.second - 1) ∷ []) ((w.first - 1) ∷ [])
unfolding meant
qudits_meant w = qudits_of_kind w.kind (w.first - 1) (w.second - 1) w.power

-- ---- its tick, and the last ticks after it, by these two; for a kind on one qudit they are the same
tick_pair : (last : ℕ → ℕ) (w : WrittenRow) → tick_of last (meant w) ≡ max (last (w.first - 1)) (last (other_of w)) + 1
unfolding tick_of largest
tick_pair last w = ap (λ (qs : List ℕ). 1 + largest (map last qs)) (qudits_meant w) ∙ by_kind (takes_two w.kind)
  where
    by_kind : (b : Bool) → 1 + largest (map last (cond b ((w.first - 1) ∷ (w.second - 1) ∷ []) ((w.first - 1) ∷ []))) ≡ max (last (w.first - 1)) (last (cond b (w.second - 1) (w.first - 1))) + 1
    by_kind true = omega arith
    by_kind false = omega arith

uses_pair : (w : WrittenRow) (q : ℕ) → uses (meant w) q ≡ (eqb q (w.first - 1) || eqb q (other_of w))
uses_pair w q = ap (among q) (qudits_meant w) ∙ by_kind (takes_two w.kind)
  where
    by_kind : (b : Bool) → among q (cond b ((w.first - 1) ∷ (w.second - 1) ∷ []) ((w.first - 1) ∷ [])) ≡ (eqb q (w.first - 1) || eqb q (cond b (w.second - 1) (w.first - 1)))
    by_kind true = rw or-false
    by_kind false = rw (or-false, or_self)

-- one number at a place of a list, and at two
set_one : (a : List ℕ) (i q t : ℕ) → i < length a → get_or (set a i t) q 0 ≡ cond (eqb q i) t (get_or a q 0)
set_one a i q t h = by_eq q i
    (λ e. rw (e, eq-eqb i i refl) (get_or-set_same a i t 0 h))
    (λ ne. rw (ne_eqb q i ne) (get_or-set_other a i q t 0 ne))

either : (x y : Bool) (t b : ℕ) → cond y t (cond x t b) ≡ cond (x || y) t b
either true true t b = refl
either true false t b = refl
either false y t b = refl

set_both : (a : List ℕ) (i j q t : ℕ) → i < length a → j < length a → get_or (set (set a i t) j t) q 0 ≡ cond (eqb q i || eqb q j) t (get_or a q 0)
set_both a i j q t hi hj = set_one (set a i t) j q t (rw length-set hj) ∙ ap (cond (eqb q j) t) (set_one a i q t hi) ∙ either (eqb q i) (eqb q j) t (get_or a q 0)

-- ---- the loop's state once some rows have run
pub record Running (rows : List Row) (last : List ℕ) (highest : ℕ) : Type 0 where
  pub whole : length last ≡ 16
  pub kept : (q : ℕ) → q < 16 → get_or last q 0 ≡ last_ticks unused rows q
  pub high : highest ≡ ticks rows

-- one row more, on the qudits i and j, whose tick is t
module _ {before : List Row} {last : List ℕ} {highest : ℕ} (s : Running before last highest) (w : WrittenRow) (i j t : ℕ)
    (first : i ≡ w.first - 1) (other : j ≡ other_of w) (i_in : i < 16) (j_in : j < 16) (next : t ≡ max (get_or last i 0) (get_or last j 0) + 1) where
  its_tick : t ≡ tick_of (last_ticks unused before) (meant w)
  its_tick = next ∙ rw (s.kept i i_in, s.kept j j_in, first, other) (sym (tick_pair (last_ticks unused before) w))

  its_places : (q : ℕ) → q < 16 → get_or (set (set last i t) j t) q 0 ≡ after_row (last_ticks unused before) (meant w) q
  unfolding after_row
  its_places q h = set_both last i j q t (rw s.whole i_in) (rw s.whole j_in) ∙ rw (uses_pair w q, its_tick, s.kept q h, first, other)

  running_more : (u : ℕ) → u ≡ max highest t → Running (before ++ (meant w ∷ [])) (set (set last i t) j t) u
  unfolding last_ticks row_ticks ticks largest
  running_more u e = record {
    whole = simp length-set s.whole;
    kept = λ q h. its_places q h ∙ sym (ap (λ (g : ℕ → ℕ). g q) (last_append before (meant w ∷ []) unused));
    high = omega (arith, e, s.high, its_tick, highest_append before (meant w ∷ []) unused);
  }

-- a loop over a table of rows: none taken, no tick above the number of rows, so that the next one fits, and after row r
module _ (f : ℕ → WrittenRow) where
  pub running_start : Running (map meant (tab f 0)) (replicate 16 0) 0
  unfolding tab last_ticks ticks row_ticks largest
  running_start = record { whole = refl; kept = λ q h. get_or-replicate 16 q 0 0 h; high = refl }

  pub running_low : {last : List ℕ} {highest : ℕ} (r : ℕ) → Running (map meant (tab f r)) last highest → (highest ≤ r) × ((q : ℕ) → q < 16 → get_or last q 0 ≤ r)
  running_low {last} {highest} r s =
      let most : highest ≤ r = omega (arith, s.high, ticks_most (map meant (tab f r)), length-map (tab f r) meant, tab_length f r) in
      (most, λ q h. omega (arith, s.high, s.kept q h, last_within (map meant (tab f r)) q))

  pub running_next : {last : List ℕ} {highest : ℕ} (r : ℕ) (w : WrittenRow) (i j t u : ℕ) → Running (map meant (tab f r)) last highest → w ≡ f r → i ≡ w.first - 1 → j ≡ other_of w → i < 16 → j < 16
      → t ≡ max (get_or last i 0) (get_or last j 0) + 1 → u ≡ max highest t → Running (map meant (tab f (r + 1))) (set (set last i t) j t) u
  running_next {last} {highest} r w i j t u s e first other i_in j_in next top =
      subst (λ (rs : List Row). Running rs (set (set last i t) j t) u)
      (ap (λ (v : WrittenRow). map meant (tab f r) ++ (meant v ∷ [])) e ∙ sym (rows_more f r))
      (running_more s w i j t first other i_in j_in next u top)
