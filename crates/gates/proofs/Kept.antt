-- What every list of legal rows keeps: ranges, products, phases, commutation numbers, parities, and Paulis that are zero at its qudits.
-- The undo rows in the other order are legal and undo the list, from either side. Assumes nothing.
use mathlib.Core.Path.{◌≡◌, refl, sym, ◌∙◌, ap}
use mathlib.Core.List.{List, [], ◌∷◌, ◌++◌, map, reverse, reverse_aux, reverse-cons}
use Prim.Native.Nat.{ℕ, ◌<◌}
use native.Mathlib.Omega.{arith}
use Rattle.pauli.specs.Pauli.{Pauli, InRange, product, comm, parity}
use Rattle.pauli.proofs.Hom.{hom_comm, hom_parity, hom_injective}
use Rattle.gates.specs.Row.{Row, apply, run, undo, AllLegal, none, more}
use Rattle.gates.proofs.Rows.{Away, frame}
use Rattle.gates.proofs.Run.{run_hom, run_last, undo_legal, run_undoes}

module _ {d n : ℕ} {rs : List Row} (large : 1 < d) (legal : AllLegal d n rs) where
  pub run_range : (p : Pauli) → InRange d n p → InRange d n (run d rs p)
  run_range = (run_hom large legal).range

  pub run_product : (p q : Pauli) → InRange d n p → InRange d n q → run d rs (product d p q) ≡ product d (run d rs p) (run d rs q)
  run_product = (run_hom large legal).keeps

  pub run_comm : (p q : Pauli) → InRange d n p → InRange d n q → comm d (run d rs p) (run d rs q) ≡ comm d p q
  run_comm = hom_comm {n = n} {f = run d rs} (omega arith) (run_hom large legal)

  pub run_parity : (p : Pauli) → InRange d n p → parity d (run d rs p) ≡ parity d p
  run_parity = hom_parity {n = n} {f = run d rs} (omega arith) (run_hom large legal)

  pub run_injective : (p q : Pauli) → InRange d n p → InRange d n q → run d rs p ≡ run d rs q → p ≡ q
  run_injective = hom_injective {n = n} {f = run d rs} large (run_hom large legal)

-- ---- frame: zero at the qudits of every row
abbrev pub AllAway : List Row → Pauli → Type 0
AllAway [] p = Unit {0}
AllAway (r ∷ rs) p = Away r p × AllAway rs p

pub run_frame : {d n : ℕ} {p : Pauli} {rs : List Row} → 1 < d → AllLegal d n rs → InRange d n p → AllAway rs p → run d rs p ≡ p
run_frame large none a w = refl
run_frame {d} large (more {r = r} {rs = rs} l ls) a w = ap (run d rs) (frame r large l a w.0) ∙ run_frame large ls a w.1

-- ---- the list that undoes a list: the undo rows, the last one first
abbrev pub undo_all : ℕ → List Row → List Row
undo_all d rs = map (undo d) (reverse rs)

reversed_legal : {d n : ℕ} {rs qs : List Row} → AllLegal d n rs → AllLegal d n qs → AllLegal d n (reverse_aux rs qs)
reversed_legal none b = b
reversed_legal (more l ls) b = reversed_legal ls (more l b)

run_last_append : (d : ℕ) (rs qs : List Row) (p : Pauli) → run_last d (rs ++ qs) p ≡ run_last d rs (run_last d qs p)
run_last_append d [] qs p = refl
run_last_append d (r ∷ rs) qs p = ap (apply d r) (run_last_append d rs qs p)

run_last_reverse : (d : ℕ) (rs : List Row) (p : Pauli) → run_last d (reverse rs) p ≡ run d rs p
run_last_reverse d [] p = refl
run_last_reverse d (r ∷ rs) p = ap (λ (l : List Row). run_last d l p) (reverse-cons r rs) ∙ run_last_append d (reverse rs) (r ∷ []) p ∙ run_last_reverse d rs (apply d r p)

module _ {d n : ℕ} {rs : List Row} (large : 1 < d) (legal : AllLegal d n rs) where
  pub undo_all_legal : AllLegal d n (undo_all d rs)
  undo_all_legal = undo_legal large (reversed_legal legal none)

  pub undo_all_after : {p : Pauli} → InRange d n p → run d (undo_all d rs) (run d rs p) ≡ p
  undo_all_after {p} a = ap (run d (undo_all d rs)) (sym (run_last_reverse d rs p)) ∙ run_undoes large (reversed_legal legal none) a

  -- and before it, since a list is injective
  pub undo_all_before : {p : Pauli} → InRange d n p → run d rs (run d (undo_all d rs) p) ≡ p
  undo_all_before {p} a =
      let back = run_range large undo_all_legal p a in
      run_injective large undo_all_legal (run d rs (run d (undo_all d rs) p)) p (run_range large legal (run d (undo_all d rs) p) back) a (undo_all_after back)
