-- The qudits that lists use: the test of "no qudit in common" decides it, and two lists with none in common may be exchanged. Holds for every d and all lists, legal or not, on every Pauli.
use mathlib.Core.Path.{◌≡◌, refl, sym, ap, ◌∙◌}
use mathlib.Core.Bool.{true, not, or-true, false≢true}
use mathlib.Core.List.{List, [], ◌∷◌, ◌++◌}
use mathlib.Core.Logic.{◌↔◌, ◌≢◌, ⊎_elim}
use Prim.Native.Nat.{ℕ}
use Rattle.std.proofs.lemmas.Bool.{both_ways, not-true, eq-eqb, ne_eqb, or_cases, and_from, not_from_false, false_from_ne_true}
use Rattle.arith.proofs.Cases.{by_eq}
use Rattle.arith.proofs.Refusals.{both_held}
use Rattle.pauli.specs.Pauli.{Pauli}
use Rattle.pauli.specs.Effects.{times}
use Rattle.pauli.proofs.Local.{Local, Different, local_exchanged, both_exchanged, fourier_local, s_local, a_local, m_local, x_local, z_local, c_local, w_local}
use Rattle.gates.specs.Row.{Row, F, S, A, M, X, Z, C, W, qudits_of, among, uses, apply, run}
use Rattle.gates.specs.Schedules.{Every, Apart}
use Rattle.gates.specs.Common.{list_uses, NoneInCommon, uses_none, none_in_common}
use Rattle.gates.proofs.Run.{run_append}

-- ---- the test decides
module _ (ys : List Row) where
  none_used : (qs : List ℕ) → uses_none ys qs ≡ true → (q : ℕ) → among q qs ≡ true → list_uses ys q ≡ true → ⊥
  none_used [] e q a u = false≢true a
  none_used (i ∷ qs) e q a u =
      let b = both_held (not (list_uses ys i)) (uses_none ys qs) e in
      by_eq q i
      (λ s. both_ways (list_uses ys i) (not-true (list_uses ys i) b.0) (sym (ap (list_uses ys) s) ∙ u))
      (λ ne. none_used qs b.1 q (rw (ne_eqb q i ne) at a) u)

  used_none : (qs : List ℕ) → ((q : ℕ) → among q qs ≡ true → list_uses ys q ≡ true → ⊥) → uses_none ys qs ≡ true
  used_none [] f = refl
  used_none (i ∷ qs) f = and_from (not (list_uses ys i)) (uses_none ys qs)
      (not_from_false (list_uses ys i) (false_from_ne_true (list_uses ys i) (f i (rw (eq-eqb i i refl)))))
      (used_none qs (λ q a. f q (rw (a, or-true))))

  passes_none : (xs : List Row) → none_in_common xs ys ≡ true → NoneInCommon xs ys
  passes_none [] e q u v = false≢true u
  passes_none (x ∷ xs) e q u v =
      let b = both_held (uses_none ys (qudits_of x)) (none_in_common xs ys) e in
      ⊎_elim (λ a. none_used (qudits_of x) b.0 q a v) (λ a. passes_none xs b.1 q a v) (or_cases (uses x q) (list_uses xs q) u)

  none_passes : (xs : List Row) → NoneInCommon xs ys → none_in_common xs ys ≡ true
  none_passes [] f = refl
  none_passes (x ∷ xs) f = and_from (uses_none ys (qudits_of x)) (none_in_common xs ys)
      (used_none (qudits_of x) (λ q a. f q (rw a)))
      (none_passes xs (λ q a. f q (rw (a, or-true))))

pub common_test : (xs ys : List Row) → (none_in_common xs ys ≡ true) ↔ NoneInCommon xs ys
common_test xs ys = (passes_none ys xs, none_passes ys xs)

-- it is the same as that each row of the one is apart from each row of the other
apart_each : (x : Row) (ys : List Row) → ((q : ℕ) → uses x q ≡ true → list_uses ys q ≡ true → ⊥) → Every (Apart x) ys
apart_each x [] f = tt
apart_each x (y ∷ ys) f = (λ q u v. f q u (rw v), apart_each x ys (λ q u v. f q u (rw (v, or-true))))

each_apart : (x : Row) (ys : List Row) → Every (Apart x) ys → (q : ℕ) → uses x q ≡ true → list_uses ys q ≡ true → ⊥
each_apart x [] f q u v = false≢true v
each_apart x (y ∷ ys) f q u v = ⊎_elim (f.0 q u) (each_apart x ys f.1 q u) (or_cases (uses y q) (list_uses ys q) v)

pub common_apart : (xs ys : List Row) → NoneInCommon xs ys ↔ Every (λ x. Every (Apart x) ys) xs
common_apart xs ys = (all_apart xs, apart_all xs)
  where
    all_apart : (xs : List Row) → NoneInCommon xs ys → Every (λ x. Every (Apart x) ys) xs
    all_apart [] f = tt
    all_apart (x ∷ xs) f = (apart_each x ys (λ q u. f q (rw u)), all_apart xs (λ q u. f q (rw (u, or-true))))

    apart_all : (xs : List Row) → Every (λ x. Every (Apart x) ys) xs → NoneInCommon xs ys
    apart_all [] f q u v = false≢true u
    apart_all (x ∷ xs) f q u v = ⊎_elim (λ a. each_apart x ys f.0 q a v) (λ a. apart_all xs f.1 q a v) (or_cases (uses x q) (list_uses xs q) u)

-- ---- rows on different qudits may be exchanged
-- a row by what it does so many times (F of power k, k times; any other row once), which is local at qudits that the row uses
record Repeats (d : ℕ) (r : Row) : Type 0 where
  first : ℕ
  second : ℕ
  first_used : uses r first ≡ true
  second_used : uses r second ≡ true
  step : Pauli → Pauli
  count : ℕ
  local : Local d first second step
  same : (p : Pauli) → apply d r p ≡ times count step p

module _ {d : ℕ} {r : Row} where
  on_one : {step : Pauli → Pauli} (i : ℕ) → uses r i ≡ true → (k : ℕ) → Local d i i step → ((p : Pauli) → apply d r p ≡ times k step p) → Repeats d r
  on_one {step} i u k l e = record { first = i; second = i; first_used = u; second_used = u; step = step; count = k; local = l; same = e }

  on_two : {step : Pauli → Pauli} (i j : ℕ) → uses r i ≡ true → uses r j ≡ true → Local d i j step → ((p : Pauli) → apply d r p ≡ step p) → Repeats d r
  on_two {step} i j u v l e = record { first = i; second = j; first_used = u; second_used = v; step = step; count = 1; local = l; same = e }

row_repeats : (d : ℕ) (r : Row) → Repeats d r
row_repeats d (F i k) = on_one i (rw (eq-eqb i i refl)) k (fourier_local d i) (λ p. refl)
row_repeats d (S i k) = on_one i (rw (eq-eqb i i refl)) 1 (s_local d i k) (λ p. refl)
row_repeats d (A i j k) = on_two i j (rw (eq-eqb i i refl)) (rw (eq-eqb j j refl, or-true)) (a_local d i j k) (λ p. refl)
row_repeats d (M i k) = on_one i (rw (eq-eqb i i refl)) 1 (m_local d i k) (λ p. refl)
row_repeats d (X i k) = on_one i (rw (eq-eqb i i refl)) 1 (x_local d i k) (λ p. refl)
row_repeats d (Z i k) = on_one i (rw (eq-eqb i i refl)) 1 (z_local d i k) (λ p. refl)
row_repeats d (C i j k) = on_two i j (rw (eq-eqb i i refl)) (rw (eq-eqb j j refl, or-true)) (c_local d i j k) (λ p. refl)
row_repeats d (W i j) = on_two i j (rw (eq-eqb i i refl)) (rw (eq-eqb j j refl, or-true)) (w_local d i j) (λ p. refl)

rows_exchanged : (d : ℕ) (r s : Row) → Apart r s → (p : Pauli) → apply d r (apply d s p) ≡ apply d s (apply d r p)
rows_exchanged d r s apart p =
    a.same (apply d s p) ∙ ap (times a.count a.step) (b.same p)
    ∙ both_exchanged a.step b.step a.count b.count (local_exchanged different a.local b.local) p
    ∙ sym (b.same (apply d r p) ∙ ap (times b.count b.step) (a.same p))
  where
    a : Repeats d r
    a = row_repeats d r

    b : Repeats d s
    b = row_repeats d s

    differ : (i k : ℕ) → uses r i ≡ true → uses s k ≡ true → i ≢ k
    differ i k u v e = apart i u (ap (uses s) e ∙ v)

    different : Different a.first a.second b.first b.second
    different = record {
      first_first = differ a.first b.first a.first_used b.first_used;
      first_second = differ a.first b.second a.first_used b.second_used;
      second_first = differ a.second b.first a.second_used b.first_used;
      second_second = differ a.second b.second a.second_used b.second_used;
    }

-- ---- and so may lists
row_exchanged : (d : ℕ) (r : Row) (ys : List Row) → ((q : ℕ) → uses r q ≡ true → list_uses ys q ≡ true → ⊥) → (p : Pauli) → run d ys (apply d r p) ≡ apply d r (run d ys p)
row_exchanged d r [] apart p = refl
row_exchanged d r (y ∷ ys) apart p =
    ap (run d ys) (sym (rows_exchanged d r y (λ q u v. apart q u (rw v)) p))
    ∙ row_exchanged d r ys (λ q u v. apart q u (rw (v, or-true))) (apply d y p)

lists_exchanged : (d : ℕ) (xs ys : List Row) → NoneInCommon xs ys → (p : Pauli) → run d ys (run d xs p) ≡ run d xs (run d ys p)
lists_exchanged d [] ys apart p = refl
lists_exchanged d (x ∷ xs) ys apart p =
    lists_exchanged d xs ys (λ q u. apart q (rw (u, or-true))) (apply d x p)
    ∙ ap (run d xs) (row_exchanged d x ys (λ q u. apart q (rw u)) p)

-- every Pauli is carried alike in either order
pub run_either : (d : ℕ) (xs ys : List Row) → NoneInCommon xs ys → (p : Pauli) → run d (xs ++ ys) p ≡ run d (ys ++ xs) p
run_either d xs ys apart p = run_append d xs ys p ∙ lists_exchanged d xs ys apart p ∙ sym (run_append d ys xs p)
