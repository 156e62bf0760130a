-- Rows as they are written: the legal ones are exactly what legal rows are written as, and what is encoded is decoded again. Assumes nothing.
use mathlib.Core.Path.{◌≡◌, refl, sym, ap, ap₂, ◌∙◌}
use mathlib.Core.Logic.{◌↔◌, ◌≢◌}
use mathlib.Core.List.{List, [], ◌∷◌, ◌++◌, map, append_assoc, append-nil}
use mathlib.Core.Bool.{Bool, true, false, not, ◌&&◌, cond, and_assoc, true≢false}
use Prim.Native.Nat.{ℕ, zero, suc, ◌+◌, ◌*◌, ◌-◌, ◌/◌, ◌%◌, ◌≤◌, ◌<◌}
use native.Mathlib.Nat.{le_of_suc-le-suc, not-suc-le-zero, mod-add-div}
use native.Mathlib.Omega.{arith}
use lib.ListN.{length, take, drop, get_or, get_or-append, take-append-drop, length-drop}
use lib.Seq.{sets, length-take-le}
use Rattle.std.proofs.lemmas.List.{get_or-append-add, length-append}
use lib.Dec.{leb, eqb}
use borrow.Author.Tests.{leb-true, eqb-true, eqb-false, not-true, le-leb, eq-eqb, ne_eqb}
use Rattle.std.proofs.lemmas.Bool.{and_from}
use Rattle.arith.specs.Gcd.{gcd}
use Rattle.arith.specs.Units.{IsUnit, inverse_of}
use Rattle.arith.specs.Bytes.{tab, number_at, bytes_of}
use Rattle.arith.proofs.Bytes.{tab_none, tab_more, tab_cons, tab_ext, tab_list, number_bytes, bytes_length, write_more}
use Rattle.arith.proofs.Cases.{by_eq}
use Rattle.arith.proofs.Refusals.{both_held}
use Rattle.gates.specs.declared.kind.Kind.TheVariants as code
use Rattle.gates.specs.Kind.{kind_number, NoKind}
use Rattle.gates.specs.Row.{Row, F, S, A, M, X, Z, C, W, OneQudit, TwoQudits, Legal, AllLegal, none, more, undo}
use Rattle.gates.specs.Written.{WrittenRow, with_power, on_one, on_two, written, row_of_kind, meant, between, highest, legal_power, takes_two, legal_second, legal_row, all_rows, all_legal_rows, row_at, list_rows, rows_of, row_numbers, list_numbers, encode_rows}

-- ---- two tests in a row: the second decides, or the first fails
pub second_decides : {a b r : Bool} → a ≡ true → r ≡ b → r ≡ (a && b)
second_decides e f = rw e f

pub first_fails : {a : Bool} (b : Bool) → a ≡ false → false ≡ (a && b)
first_fails b e = rw e

-- ---- the kinds
pub data Kind : ℕ → Type 0 where
  kind_f : Kind 1
  kind_s : Kind 2
  kind_a : Kind 3
  kind_m : Kind 4
  kind_x : Kind 5
  kind_z : Kind 6
  kind_c : Kind 7
  kind_w : Kind 8

known : (d kind : ℕ) → 1 ≤ highest d kind → Kind kind
known d zero h = absurd (not-suc-le-zero h)
known d (suc zero) h = kind_f
known d (suc (suc zero)) h = kind_s
known d (suc (suc (suc zero))) h = kind_a
known d (suc (suc (suc (suc zero)))) h = kind_m
known d (suc (suc (suc (suc (suc zero))))) h = kind_x
known d (suc (suc (suc (suc (suc (suc zero)))))) h = kind_z
known d (suc (suc (suc (suc (suc (suc (suc zero))))))) h = kind_c
known d (suc (suc (suc (suc (suc (suc (suc (suc zero)))))))) h = kind_w
known d (suc (suc (suc (suc (suc (suc (suc (suc (suc kind))))))))) h = absurd (not-suc-le-zero h)

-- a number that no kind has
pub no_kind : (d kind : ℕ) → NoKind kind_number kind → highest d kind ≡ 0
no_kind d zero z = refl
no_kind d (suc zero) z = absurd (z code.F refl)
no_kind d (suc (suc zero)) z = absurd (z code.S refl)
no_kind d (suc (suc (suc zero))) z = absurd (z code.A refl)
no_kind d (suc (suc (suc (suc zero)))) z = absurd (z code.M refl)
no_kind d (suc (suc (suc (suc (suc zero))))) z = absurd (z code.X refl)
no_kind d (suc (suc (suc (suc (suc (suc zero)))))) z = absurd (z code.Z refl)
no_kind d (suc (suc (suc (suc (suc (suc (suc zero))))))) z = absurd (z code.C refl)
no_kind d (suc (suc (suc (suc (suc (suc (suc (suc zero)))))))) z = absurd (z code.W refl)
no_kind d (suc (suc (suc (suc (suc (suc (suc (suc (suc kind))))))))) z = refl

kind_bounds : {kind : ℕ} → Kind kind → (1 ≤ kind) × (kind ≤ 8)
kind_bounds kind_f = omega arith
kind_bounds kind_s = omega arith
kind_bounds kind_a = omega arith
kind_bounds kind_m = omega arith
kind_bounds kind_x = omega arith
kind_bounds kind_z = omega arith
kind_bounds kind_c = omega arith
kind_bounds kind_w = omega arith

-- a kind that is none of those on two qudits
pub takes_one : (kind : ℕ) → kind ≢ 3 → kind ≢ 7 → kind ≢ 8 → takes_two kind ≡ false
takes_one kind a c w = rw (ne_eqb kind 3 a, ne_eqb kind 7 c, ne_eqb kind 8 w)

pub not_two : (kind : ℕ) → takes_two kind ≡ false → (kind ≢ 3) × ((kind ≢ 7) × (kind ≢ 8))
not_two kind e = (λ q. true≢false (sym (ap takes_two q) ∙ e), (λ q. true≢false (sym (ap takes_two q) ∙ e), λ q. true≢false (sym (ap takes_two q) ∙ e)))

-- and one that is one of those
pub by_two : {P : Type 0} (kind : ℕ) → takes_two kind ≡ true → (kind ≡ 3 → P) → (kind ≡ 7 → P) → (kind ≡ 8 → P) → P
by_two kind e a c w = by_eq kind 3 a (λ n3. by_eq kind 7 c (λ n7. by_eq kind 8 w (λ n8. absurd (true≢false (sym e ∙ takes_one kind n3 n7 n8)))))

-- ---- what a legal row's tests tell
record Tests (d n kind i j k : ℕ) : Type 0 where
  sort : Kind kind
  power_low : 1 ≤ k
  power_high : k ≤ highest d kind
  unit : cond (eqb kind 4) (eqb (gcd k d) 1) true ≡ true
  first_low : 1 ≤ i
  first_high : i ≤ n
  second : legal_second n kind i j ≡ true

pub between_held : {low high : ℕ} (x : ℕ) → between low high x ≡ true → (low ≤ x) × (x ≤ high)
between_held {low} {high} x e = let b = both_held (leb low x) (leb x high) e in (leb-true low x b.0, leb-true x high b.1)

-- the power of M is below d
pub m_below : (d kind k : ℕ) → kind ≡ 4 → (1 ≤ k) × (k ≤ highest d kind) → k < d
m_below d kind k e h = let l = rw e at h.1 in omega arith

tests : (d n : ℕ) (w : WrittenRow) → legal_row d n w ≡ true → Tests d n w.kind w.first w.second w.power
unfolding legal_row
tests d n w e =
    let both = both_held (legal_power d w.kind w.power) _ e in
    let qudits = both_held (between 1 n w.first) _ both.1 in
    let powers = both_held (between 1 (highest d w.kind) w.power) _ both.0 in
    let k = between_held w.power powers.0 in
    let i = between_held w.first qudits.0 in
    record {
      sort = known d w.kind (omega arith);
      power_low = k.0;
      power_high = k.1;
      unit = powers.1;
      first_low = i.0;
      first_high = i.1;
      second = qudits.1;
    }

-- a legal second qudit of a kind on two
record Second (n i j : ℕ) : Type 0 where
  low : 1 ≤ j
  high : j ≤ n
  other : j ≡ i → ⊥

two_held : (n i j : ℕ) → (between 1 n j && not (eqb j i)) ≡ true → Second n i j
two_held n i j e =
    let both = both_held (between 1 n j) (not (eqb j i)) e in
    let b = between_held j both.0 in
    record { low = b.0; high = b.1; other = eqb-false j i (not-true (eqb j i) both.1) }

-- ---- what the code needs of a legal row
module _ (d n : ℕ) (w : WrittenRow) (legal : legal_row d n w ≡ true) where
  pub legal_first : (1 ≤ w.first) × (w.first ≤ n)
  legal_first = let t = tests d n w legal in (t.first_low, t.first_high)

  pub legal_second_lem : takes_two w.kind ≡ true → (1 ≤ w.second) × (w.second ≤ n)
  legal_second_lem e = let t = two_held n w.first w.second (rw e at (tests d n w legal).second) in (t.low, t.high)

  pub legal_apart : takes_two w.kind ≡ true → w.first - 1 ≢ w.second - 1
  legal_apart e q = let t = two_held n w.first w.second (rw e at (tests d n w legal).second) in let f = legal_first in t.other (omega arith)

  pub legal_unit : w.kind ≡ 4 → (w.power < d) × IsUnit d w.power
  legal_unit e = let t = tests d n w legal in (m_below d w.kind w.power e (t.power_low, t.power_high), eqb-true (gcd w.power d) 1 (rw e at t.unit))

  pub legal_highest : w.power ≤ highest d w.kind
  legal_highest = (tests d n w legal).power_high

  -- F at most three times
  pub legal_turns : w.kind ≡ 1 → (1 ≤ w.power) × (w.power ≤ 3)
  legal_turns e = let t = tests d n w legal in (t.power_low, rw e at t.power_high)

  pub legal_bounds : (1 ≤ w.kind) × (w.kind ≤ 8)
  legal_bounds = kind_bounds (tests d n w legal).sort

  pub legal_sort : Kind w.kind
  legal_sort = (tests d n w legal).sort

  pub legal_kind : highest d w.kind ≡ 0 → ⊥
  legal_kind e = let t = tests d n w legal in omega arith

-- those that the proofs of functions look up
pub ruleset legal_facts = (legal_bounds, legal_highest, legal_first, legal_second_lem, legal_apart, legal_unit)

-- ---- a row whose tests hold means a legal row
powered : {d n kind i j k : ℕ} → Tests d n kind i j k → OneQudit n (i - 1) 1 k (highest d kind)
powered t = record { qudit = omega arith; power_low = t.power_low; power_high = t.power_high }

paired : {d n kind i j k : ℕ} → Tests d n kind i j k → Second n i j → TwoQudits n (i - 1) (j - 1)
paired t s = record { from_qudit = omega arith; to_qudit = omega arith; apart = λ e. s.other (omega arith) }

meant_legal : {d n kind i j k : ℕ} → Kind kind → Tests d n kind i j k → Legal d n (row_of_kind kind (i - 1) (j - 1) k)
meant_legal kind_f t = powered t
meant_legal kind_s t = powered t
meant_legal {n = n} {i = i} {j = j} kind_a t = (paired t (two_held n i j t.second), powered t)
meant_legal {d = d} {k = k} kind_m t = (eqb-true (gcd k d) 1 t.unit, powered t)
meant_legal kind_x t = powered t
meant_legal kind_z t = powered t
meant_legal {n = n} {i = i} {j = j} kind_c t = (paired t (two_held n i j t.second), powered t)
meant_legal {n = n} {i = i} {j = j} kind_w t = paired t (two_held n i j t.second)

pub legal_meant : (d n : ℕ) (w : WrittenRow) → legal_row d n w ≡ true → Legal d n (meant w)
unfolding meant
legal_meant d n w e = let t = tests d n w e in meant_legal t.sort t

-- ---- and is what that row is written as
pub row_path : {a b i j p q k l : ℕ} → a ≡ b → i ≡ j → p ≡ q → k ≡ l
    → ◌≡◌ {A = WrittenRow} (record { kind = a; first = i; second = p; power = k }) (record { kind = b; first = j; second = q; power = l })
row_path e f g h = cc

meant_one : {d n kind i k : ℕ} (j : ℕ) → Tests d n kind i j k → eqb j 0 ≡ true → on_one kind (i - 1) k ≡ record { kind = kind; first = i; second = j; power = k }
meant_one j t e = row_path refl (omega arith) (sym (eqb-true j 0 e)) refl

meant_two : {d n kind i j k : ℕ} → Tests d n kind i j k → Second n i j → on_two kind (i - 1) (j - 1) k ≡ record { kind = kind; first = i; second = j; power = k }
meant_two t s = row_path refl (omega arith) (omega arith) refl

meant_written : {d n kind i j k : ℕ} → Kind kind → Tests d n kind i j k → written (row_of_kind kind (i - 1) (j - 1) k) ≡ record { kind = kind; first = i; second = j; power = k }
meant_written {j = j} kind_f t = meant_one j t t.second
meant_written {j = j} kind_s t = meant_one j t t.second
meant_written {n = n} {i = i} {j = j} kind_a t = meant_two t (two_held n i j t.second)
meant_written {j = j} kind_m t = meant_one j t t.second
meant_written {j = j} kind_x t = meant_one j t t.second
meant_written {j = j} kind_z t = meant_one j t t.second
meant_written {n = n} {i = i} {j = j} kind_c t = meant_two t (two_held n i j t.second)
meant_written {n = n} {i = i} {j = j} {k = k} kind_w t = let one : 1 ≡ k = omega (arith, t.power_low, t.power_high) in ap (on_two 8 (i - 1) (j - 1)) one ∙ meant_two t (two_held n i j t.second)

pub written_meant : (d n : ℕ) (w : WrittenRow) → legal_row d n w ≡ true → written (meant w) ≡ w
unfolding meant
written_meant d n w e = let t = tests d n w e in meant_written t.sort t

pub highest_small : (d kind : ℕ) → highest d kind ≤ 2 * d + 3
highest_small d zero = omega arith
highest_small d (suc zero) = omega arith
highest_small d (suc (suc zero)) = omega arith
highest_small d (suc (suc (suc zero))) = omega arith
highest_small d (suc (suc (suc (suc zero)))) = omega arith
highest_small d (suc (suc (suc (suc (suc zero))))) = omega arith
highest_small d (suc (suc (suc (suc (suc (suc zero)))))) = omega arith
highest_small d (suc (suc (suc (suc (suc (suc (suc zero))))))) = omega arith
highest_small d (suc (suc (suc (suc (suc (suc (suc (suc zero)))))))) = omega arith
highest_small d (suc (suc (suc (suc (suc (suc (suc (suc (suc kind))))))))) = omega arith

-- ---- the row that undoes it, by the power

undone_m : (d : ℕ) (r : Row) → (written r).kind ≡ 4 → with_power (written r) (inverse_of d (written r).power) ≡ written (undo d r)
undone_m d (F i k) e = absurd (omega arith)
undone_m d (S i k) e = absurd (omega arith)
undone_m d (A i j k) e = absurd (omega arith)
undone_m d (M i k) e = refl
undone_m d (X i k) e = absurd (omega arith)
undone_m d (Z i k) e = absurd (omega arith)
undone_m d (C i j k) e = absurd (omega arith)
undone_m d (W i j) e = absurd (omega arith)

undone : (d : ℕ) (r : Row) → (written r).kind ≢ 4 → 1 ≤ (written r).power → (written r).power ≤ highest d (written r).kind → with_power (written r) (highest d (written r).kind + 1 - (written r).power) ≡ written (undo d r)
undone d (F i k) ne low high = refl
undone d (S i k) ne low high = ap (on_one 2 i) (omega arith)
undone d (A i j k) ne low high = ap (on_two 3 i j) (omega arith)
undone d (M i k) ne low high = absurd (ne refl)
undone d (X i k) ne low high = ap (on_one 5 i) (omega arith)
undone d (Z i k) ne low high = ap (on_one 6 i) (omega arith)
undone d (C i j k) ne low high = ap (on_two 7 i j) (omega arith)
undone d (W i j) ne low high = refl

module _ (d n : ℕ) (w : WrittenRow) (legal : legal_row d n w ≡ true) where
  same : written (meant w) ≡ w
  same = written_meant d n w legal

  kind_same : (written (meant w)).kind ≡ w.kind
  kind_same = ap (λ (v : WrittenRow). v.kind) same

  pub undo_m : w.kind ≡ 4 → with_power w (inverse_of d w.power) ≡ written (undo d (meant w))
  undo_m e = sym (ap (λ (v : WrittenRow). with_power v (inverse_of d v.power)) same) ∙ undone_m d (meant w) (kind_same ∙ e)

  pub undo_other : w.kind ≢ 4 → with_power w (highest d w.kind + 1 - w.power) ≡ written (undo d (meant w))
  undo_other ne =
      let t = tests d n w legal in
      sym (ap (λ (v : WrittenRow). with_power v (highest d v.kind + 1 - v.power)) same) ∙ undone d (meant w) (λ e. ne (sym kind_same ∙ e)) (rw same t.power_low) (rw same t.power_high)

-- ---- what a row is written as means that row
pub meant_of_written : (r : Row) → meant (written r) ≡ r
unfolding meant
meant_of_written (F i k) = ap (λ (x : ℕ). F x k) (omega arith)
meant_of_written (S i k) = ap (λ (x : ℕ). S x k) (omega arith)
meant_of_written (A i j k) = ap₂ (λ (x y : ℕ). A x y k) (omega arith) (omega arith)
meant_of_written (M i k) = ap (λ (x : ℕ). M x k) (omega arith)
meant_of_written (X i k) = ap (λ (x : ℕ). X x k) (omega arith)
meant_of_written (Z i k) = ap (λ (x : ℕ). Z x k) (omega arith)
meant_of_written (C i j k) = ap₂ (λ (x y : ℕ). C x y k) (omega arith) (omega arith)
meant_of_written (W i j) = ap₂ W (omega arith) (omega arith)

-- ---- and is legal where the row is
pub between_holds : {low high : ℕ} (x : ℕ) → low ≤ x → x ≤ high → between low high x ≡ true
between_holds {low} {high} x a b = and_from _ _ (le-leb low x a) (le-leb x high b)

-- a kind on one qudit, and on two; the last premises hold by computing for each such kind
module _ (d : ℕ) {n : ℕ} (kind : ℕ) {i k : ℕ} (o : OneQudit n i 1 k (highest d kind)) (unit : cond (eqb kind 4) (eqb (gcd k d) 1) true ≡ true) where
  legal_power_lem : legal_power d kind k ≡ true
  legal_power_lem = and_from _ _ (between_holds k o.power_low o.power_high) unit

  legal_place : between 1 n (i + 1) ≡ true
  legal_place = between_holds (i + 1) (omega arith) (omega arith)

  legal_one : takes_two kind ≡ false → legal_row d n (on_one kind i k) ≡ true
  unfolding legal_row
  legal_one e = and_from _ _ legal_power_lem (and_from _ _ legal_place (rw e))

  legal_two : {j : ℕ} → takes_two kind ≡ true → TwoQudits n i j → legal_row d n (on_two kind i j k) ≡ true
  unfolding legal_row
  legal_two {j} e t =
      and_from _ _ legal_power_lem (and_from _ _ legal_place (rw e (and_from _ _ (between_holds (j + 1) (omega arith) (omega arith)) (ap not (ne_eqb (j + 1) (i + 1) (λ q. t.apart (omega arith)))))))

pub legal_written : (d n : ℕ) (r : Row) → Legal d n r → legal_row d n (written r) ≡ true
legal_written d n (F i k) l = legal_one d 1 l refl refl
legal_written d n (S i k) l = legal_one d 2 l refl refl
legal_written d n (A i j k) l = legal_two d 3 l.1 refl refl l.0
legal_written d n (M i k) l = legal_one d 4 l.1 (eq-eqb (gcd k d) 1 l.0) refl
legal_written d n (X i k) l = legal_one d 5 l refl refl
legal_written d n (Z i k) l = legal_one d 6 l refl refl
legal_written d n (C i j k) l = legal_two d 7 l.1 refl refl l.0
legal_written d n (W i j) l = legal_two d 8 (record { qudit = l.from_qudit; power_low = omega arith; power_high = omega arith }) refl refl l

-- ---- so the legal written rows are exactly what the legal rows are written as
pub legal_exactly : (d n : ℕ) (w : WrittenRow) → (legal_row d n w ≡ true) ↔ ((r : Row) × ((w ≡ written r) × Legal d n r))
legal_exactly d n w = (
  λ e. (meant w, (sym (written_meant d n w e), legal_meant d n w e)),
  λ x. ap (legal_row d n) x.1.0 ∙ legal_written d n x.0 x.1.1,
)

-- ---- lists of rows
module _ (d n : ℕ) where
  pub all_legal_meant : (ws : List WrittenRow) → all_legal_rows d n ws ≡ true → AllLegal d n (map meant ws)
  unfolding all_rows
  all_legal_meant [] e = none
  all_legal_meant (w ∷ ws) e = let b = both_held (legal_row d n w) (all_legal_rows d n ws) e in more (legal_meant d n w b.0) (all_legal_meant ws b.1)

  pub all_legal_written : {rs : List Row} → AllLegal d n rs → all_legal_rows d n (map written rs) ≡ true
  unfolding all_rows
  all_legal_written none = refl
  all_legal_written (more {r = r} l ls) = and_from _ _ (legal_written d n r l) (all_legal_written ls)

-- ---- a test of every row of a list
module _ (test : WrittenRow → Bool) where
  all_append : (ws vs : List WrittenRow) → all_rows test (ws ++ vs) ≡ (all_rows test ws && all_rows test vs)
  unfolding all_rows
  all_append [] vs = refl
  all_append (w ∷ ws) vs = ap (λ (b : Bool). test w && b) (all_append ws vs) ∙ sym (and_assoc (test w) (all_rows test ws) (all_rows test vs))

  -- a loop over a table of rows: none seen, one more seen, one that stops it, and one of them when all pass
  module _ (f : ℕ → WrittenRow) where
    pub all_none : all_rows test (tab f 0) ≡ true
    unfolding all_rows tab
    all_none = refl

    pub all_more : (i : ℕ) → all_rows test (tab f i) ≡ true → test (f i) ≡ true → all_rows test (tab f (i + 1)) ≡ true
    unfolding all_rows
    all_more i e l = ap (all_rows test) (tab_more f i) ∙ all_append (tab f i) (f i ∷ []) ∙ and_from _ _ e (and_from _ _ l refl)

  pub all_at : (f : ℕ → WrittenRow) (m i : ℕ) → i < m → all_rows test (tab f m) ≡ true → test (f i) ≡ true
  unfolding all_rows tab
  all_at f zero i h e = absurd (not-suc-le-zero h)
  all_at f (suc m) zero h e = (both_held (test (f 0)) (all_rows test (tab (λ r. f (suc r)) m)) e).0
  all_at f (suc m) (suc i) h e = all_at (λ r. f (suc r)) m i (le_of_suc-le-suc h) (both_held (test (f 0)) (all_rows test (tab (λ r. f (suc r)) m)) e).1

  pub all_stop : (f : ℕ → WrittenRow) (m i : ℕ) → i < m → test (f i) ≡ false → all_rows test (tab f m) ≡ false
  all_stop f m i h e = decided (all_rows test (tab f m)) refl
    where
      decided : (b : Bool) → all_rows test (tab f m) ≡ b → b ≡ false
      decided true g = sym (all_at f m i h g) ∙ e
      decided false g = refl

-- the row that is read at a place of a legal list is legal
pub legal_at : (d n : ℕ) (list : List ℕ) (r : ℕ) (w : WrittenRow) → w ≡ row_at list r → r < length list / 8 → all_legal_rows d n (list_rows list) ≡ true → legal_row d n w ≡ true
legal_at d n list r w e h legal = ap (legal_row d n) e ∙ all_at (legal_row d n) (row_at list) (length list / 8) r h legal

-- ---- the rows of a list in bytes: those of 8 bytes and what follows them, and of fewer than 8
number_front : (x t : List ℕ) (k : ℕ) → 2 * k + 1 < length x → number_at (x ++ t) k ≡ number_at x k
unfolding number_at
number_front x t k h = ap₂ (λ (a b : ℕ). a + 256 * b) (get_or-append x t 0 (2 * k) (omega arith)) (get_or-append x t 0 (2 * k + 1) h)

number_after : (x t : List ℕ) (k j : ℕ) → length x ≡ 2 * j → number_at (x ++ t) (j + k) ≡ number_at t k
unfolding number_at
number_after x t k j e = ap₂ (λ (a b : ℕ). a + 256 * b) (place (2 * k) (2 * (j + k)) (omega arith)) (place (2 * k + 1) (2 * (j + k) + 1) (omega arith))
  where
    place : (i n : ℕ) → n ≡ length x + i → get_or (x ++ t) n 0 ≡ get_or t i 0
    place i n h = rw h (get_or-append-add x t i 0)

row_front : (x t : List ℕ) → length x ≡ 8 → row_at (x ++ t) 0 ≡ row_at x 0
row_front x t e = row_path (number_front x t 0 (omega arith)) (number_front x t 1 (omega arith)) (number_front x t 2 (omega arith)) (number_front x t 3 (omega arith))

row_after : (x t : List ℕ) (r : ℕ) → length x ≡ 8 → row_at (x ++ t) (suc r) ≡ row_at t r
row_after x t r e = row_path (number (4 * r) (omega arith)) (number (4 * r + 1) (omega arith)) (number (4 * r + 2) (omega arith)) (number (4 * r + 3) (omega arith))
  where
    number : (k : ℕ) {m : ℕ} → m ≡ 4 + k → number_at (x ++ t) m ≡ number_at t k
    number k h = rw h (number_after x t k 4 e)

pub rows_front : (x t : List ℕ) → length x ≡ 8 → list_rows (x ++ t) ≡ row_at x 0 ∷ list_rows t
rows_front x t e =
    let n : length (x ++ t) / 8 ≡ suc (length t / 8) = omega (arith, length-append x t, e) in
    ap (tab (row_at (x ++ t))) n
    ∙ tab_cons (row_at (x ++ t)) (length t / 8)
    ∙ ap₂ (λ (w : WrittenRow) (ws : List WrittenRow). w ∷ ws) (row_front x t e) (tab_ext (λ r. row_at (x ++ t) (suc r)) (row_at t) (length t / 8) (λ r h. row_after x t r e))

pub rows_none : (s : List ℕ) → length s < 8 → list_rows s ≡ []
rows_none s h = let n : length s / 8 ≡ 0 = omega arith in ap (tab (row_at s)) n ∙ tab_none (row_at s)

-- whole rows, and others put behind them
rows_behind : (m : ℕ) (xs ys : List ℕ) → length xs ≡ 8 * m → list_rows (xs ++ ys) ≡ list_rows xs ++ list_rows ys
rows_behind zero [] ys e = ap (λ (ws : List WrittenRow). ws ++ list_rows ys) (sym (rows_none [] (omega arith)))
rows_behind zero (b ∷ xs) ys e = absurd (omega arith)
rows_behind (suc m) xs ys e =
    ap list_rows (ap (λ (l : List ℕ). l ++ ys) (sym cut) ∙ append_assoc (take 8 xs) (drop 8 xs) ys)
    ∙ rows_front (take 8 xs) (drop 8 xs ++ ys) whole
    ∙ ap (λ (ws : List WrittenRow). row_at (take 8 xs) 0 ∷ ws) (rows_behind m (drop 8 xs) ys (omega (arith, length-drop 8 xs)))
    ∙ ap (λ (ws : List WrittenRow). ws ++ list_rows ys) (sym (rows_front (take 8 xs) (drop 8 xs) whole) ∙ ap list_rows cut)
  where
    cut : take 8 xs ++ drop 8 xs ≡ xs
    cut = take-append-drop 8 xs

    whole : length (take 8 xs) ≡ 8
    whole = length-take-le 8 xs (omega (arith, e))

pub rows_append : (xs ys : List ℕ) → length xs % 8 ≡ 0 → list_rows (xs ++ ys) ≡ list_rows xs ++ list_rows ys
rows_append xs ys e = rows_behind (length xs / 8) xs ys (omega (arith, mod-add-div (length xs) 8))

-- a loop over the bytes, row by row: the first row of those left passes, or fails, or there is none
module _ (test : WrittenRow → Bool) where
  all_front : (x t : List ℕ) {b : Bool} → length x ≡ 8 → test (row_at x 0) ≡ b → all_rows test (list_rows (x ++ t)) ≡ (b && all_rows test (list_rows t))
  unfolding all_rows
  all_front x t e f = ap (all_rows test) (rows_front x t e) ∙ ap (λ (c : Bool). c && all_rows test (list_rows t)) f

  pub all_next : {s : List ℕ} (x t : List ℕ) → s ≡ x ++ t → length x ≡ 8 → test (row_at x 0) ≡ true → all_rows test (list_rows s) ≡ all_rows test (list_rows t)
  all_next x t g e f = rw g (all_front x t e f)

  pub all_fails : {s : List ℕ} (x t : List ℕ) → s ≡ x ++ t → length x ≡ 8 → test (row_at x 0) ≡ false → all_rows test (list_rows s) ≡ false
  all_fails x t g e f = rw g (all_front x t e f)

  pub all_end : (s : List ℕ) → length s < 8 → all_rows test (list_rows s) ≡ true
  unfolding all_rows
  all_end s h = ap (all_rows test) (rows_none s h)

-- ---- encoding
list_numbers_at : (ws : List WrittenRow) (w₀ : WrittenRow) (r o : ℕ) → r < length ws → o < 4 → get_or (list_numbers ws) (4 * r + o) 0 ≡ get_or (row_numbers (get_or ws r w₀)) o 0
unfolding list_numbers
list_numbers_at [] w₀ r o h k = absurd (not-suc-le-zero h)
list_numbers_at (w ∷ ws) w₀ zero o h k = let e : 4 * 0 + o ≡ o = omega arith in rw e (get_or-append (row_numbers w) (list_numbers ws) 0 o k)
list_numbers_at (w ∷ ws) w₀ (suc r) o h k =
    let e : 4 * suc r + o ≡ suc (suc (suc (suc (4 * r + o)))) = omega arith in
    rw e (list_numbers_at ws w₀ r o (le_of_suc-le-suc h) k)

pub list_numbers_length : (ws : List WrittenRow) → length (list_numbers ws) ≡ 4 * length ws
unfolding list_numbers
list_numbers_length [] = refl
list_numbers_length (w ∷ ws) = omega (arith, list_numbers_length ws)

pub rows_bytes : (ws : List WrittenRow) → length (encode_rows ws) ≡ 8 * length ws
rows_bytes ws = omega (arith, bytes_length (list_numbers ws), list_numbers_length ws)

-- ---- rows written behind rows
numbers_append : (ws us : List WrittenRow) → list_numbers (ws ++ us) ≡ list_numbers ws ++ list_numbers us
unfolding list_numbers
numbers_append [] us = refl
numbers_append (w ∷ ws) us = ap (λ (l : List ℕ). row_numbers w ++ l) (numbers_append ws us) ∙ sym (append_assoc (row_numbers w) (list_numbers ws) (list_numbers us))

-- rows stand from row `first` of an output on, and one more is written behind them
pub row_written : (old : List ℕ) (first count : ℕ) (ws : List WrittenRow) (w : WrittenRow) → count ≡ first + length ws
    → sets (sets old (8 * first) (encode_rows ws)) (8 * count) (encode_rows (w ∷ [])) ≡ sets old (8 * first) (encode_rows (ws ++ (w ∷ [])))
row_written old first count ws w e =
    let p : 8 * first ≡ 2 * (4 * first) = omega arith in
    let q : 8 * count ≡ 2 * (4 * count) = omega arith in
    ap (λ (k : ℕ). sets (sets old k (encode_rows ws)) (8 * count) (encode_rows (w ∷ []))) p
    ∙ ap (λ (k : ℕ). sets (sets old (2 * (4 * first)) (encode_rows ws)) k (encode_rows (w ∷ []))) q
    ∙ write_more old (4 * first) (4 * count) (list_numbers ws) (list_numbers (w ∷ [])) (omega (arith, list_numbers_length ws))
    ∙ ap (λ (k : ℕ). sets old k (bytes_of (list_numbers ws ++ list_numbers (w ∷ [])))) (sym p)
    ∙ ap (λ (l : List ℕ). sets old (8 * first) (bytes_of l)) (sym (numbers_append ws (w ∷ [])))

-- rows that are encoded and followed by any bytes are decoded again
module _ (ws : List WrittenRow) (rest : List ℕ) where
  number_encoded : (w₀ : WrittenRow) (r o : ℕ) → r < length ws → o < 4 → number_at (encode_rows ws ++ rest) (4 * r + o) ≡ get_or (row_numbers (get_or ws r w₀)) o 0
  number_encoded w₀ r o h k = number_bytes (list_numbers ws) rest (4 * r + o) (omega (arith, list_numbers_length ws)) ∙ list_numbers_at ws w₀ r o h k

  pub row_encoded : (w₀ : WrittenRow) (r : ℕ) → r < length ws → row_at (encode_rows ws ++ rest) r ≡ get_or ws r w₀
  row_encoded w₀ r h =
      let e : 4 * r ≡ 4 * r + 0 = omega arith in
      row_path (ap (number_at (encode_rows ws ++ rest)) e ∙ number_encoded w₀ r 0 h (omega arith)) (number_encoded w₀ r 1 h (omega arith)) (number_encoded w₀ r 2 h (omega arith)) (number_encoded w₀ r 3 h (omega arith))

  pub rows_encoded : tab (row_at (encode_rows ws ++ rest)) (length ws) ≡ ws
  rows_encoded = tab_ext (row_at (encode_rows ws ++ rest)) (λ i. get_or ws i w₀) (length ws) (row_encoded w₀) ∙ tab_list w₀ ws
    where
      w₀ : WrittenRow
      w₀ = record { kind = 0; first = 0; second = 0; power = 0 }

-- and so is a list of them
pub list_encoded : (ws : List WrittenRow) → list_rows (encode_rows ws) ≡ ws
list_encoded ws =
    let e : length (encode_rows ws) / 8 ≡ length ws = omega (arith, bytes_length (list_numbers ws), list_numbers_length ws) in
    ap₂ (λ (b : List ℕ) (m : ℕ). tab (row_at b) m) (sym (append-nil (encode_rows ws))) e ∙ rows_encoded ws []

-- so the bytes of a list of rows mean those rows
pub rows_meant : (rs : List Row) → map meant (map written rs) ≡ rs
rows_meant [] = refl
rows_meant (r ∷ rs) = ap₂ (λ (x : Row) (l : List Row). x ∷ l) (meant_of_written r) (rows_meant rs)

pub list_meant : (rs : List Row) → rows_of (encode_rows (map written rs)) ≡ rs
list_meant rs = ap (map meant) (list_encoded (map written rs)) ∙ rows_meant rs
