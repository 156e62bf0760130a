-- The columns of a tableau, what a map that keeps products makes of them, and the units' own tableau.
use mathlib.Core.Path.{◌≡◌, refl, sym, ◌∙◌, ap}
use mathlib.Core.List.{List, [], ◌∷◌, map}
use Prim.Native.Nat.{ℕ, zero, suc, ◌+◌, ◌*◌, ◌<◌}
use native.Mathlib.Nat.{not-suc-le-zero, le_of_suc-le-suc}
use native.Mathlib.Omega.{arith}
use lib.ListN.{length, get_or, length-map, get_or-map}
use Rattle.pauli.specs.Pauli.{Pauli, InRange, comm, unit, parity, phase_only}
use Rattle.pauli.proofs.Ranges.{one_range}
use Rattle.pauli.proofs.Units.{unit_parity, comm_units, unit_range}
use Rattle.pauli.proofs.Hom.{Hom, hom_comm, hom_parity}
use Rattle.tableau.specs.Tableau.{up_from, units, column, AllInRange, none, more, WellFormed, Sound}

-- ---- the numbers from k on
pub length_up_from : (k m : ℕ) → length (up_from k m) ≡ m
length_up_from k zero = refl
length_up_from k (suc m) = ap suc (length_up_from (suc k) m)

pub get_d_up_from : {A : Type 0} (f : ℕ → A) (z : A) (k m j : ℕ) → j < m → get_or (map f (up_from k m)) j z ≡ f (k + j)
get_d_up_from f z k zero j h = absurd (not-suc-le-zero h)
get_d_up_from f z k (suc m) zero h = ap f (omega arith)
get_d_up_from f z k (suc m) (suc j) h = get_d_up_from f z (suc k) m j (le_of_suc-le-suc h) ∙ ap f (omega arith)

-- ---- columns, and what a map that keeps products makes of them
pub column_range : {d n : ℕ} {t : List Pauli} (j : ℕ) → 0 < d → AllInRange d n t → InRange d n (column n t j)
column_range {n = n} j pos none = one_range n pos
column_range zero pos (more c cs) = c
column_range (suc j) pos (more c cs) = column_range j pos cs

pub column_inside : {d n : ℕ} {t : List Pauli} (j : ℕ) → j < length t → AllInRange d n t → InRange d n (column n t j)
column_inside j l none = absurd (not-suc-le-zero l)
column_inside zero l (more c cs) = c
column_inside (suc j) l (more c cs) = column_inside j (le_of_suc-le-suc l) cs

module _ {d n : ℕ} {f : Pauli → Pauli} (keeps : (p : Pauli) → InRange d n p → InRange d n (f p)) where
  pub map_range : {t : List Pauli} → AllInRange d n t → AllInRange d n (map f t)
  map_range none = none
  map_range (more {c = c} r rs) = more (keeps c r) (map_range rs)

  -- a map that keeps ranges keeps a tableau well formed
  pub map_kept : {t : List Pauli} → WellFormed d n t → WellFormed d n (map f t)
  map_kept {t} g = record { columns = length-map t f ∙ g.columns; ranges = map_range g.ranges }

pub column_map : {d n : ℕ} {f : Pauli → Pauli} → 0 < d → Hom d n f → (t : List Pauli) (j : ℕ) → column n (map f t) j ≡ f (column n t j)
column_map {n = n} {f} pos m t j = ap (get_or (map f t) j) (sym (m.phases 0 (omega arith))) ∙ get_or-map f t j (phase_only n 0)

pub map_formed : {d n : ℕ} {f : Pauli → Pauli} {t : List Pauli} → Hom d n f → WellFormed d n t → WellFormed d n (map f t)
map_formed m g = map_kept m.range g

pub map_sound : {d n : ℕ} {f : Pauli → Pauli} {t : List Pauli} → 0 < d → Hom d n f → WellFormed d n t → Sound d n t → Sound d n (map f t)
map_sound {d} {n} {f} {t} pos m g s = record {
  pairing = record {
    pairs = λ j k l h.
        (λ i. comm d (column_map pos m t j i) (column_map pos m t k i))
        ∙ hom_comm pos m (column n t j) (column n t k) (column_range j pos g.ranges) (column_range k pos g.ranges)
        ∙ s.pairing.pairs j k l h;
  };
  parities = record {
    even = λ j l.
        ap (parity d) (column_map pos m t j)
        ∙ hom_parity pos m (column n t j) (column_range j pos g.ranges)
        ∙ s.parities.even j l;
  };
}

-- maps that agree in range give the same columns
pub map_agree : {d n : ℕ} {f g : Pauli → Pauli} {t : List Pauli} → ((p : Pauli) → InRange d n p → f p ≡ g p) → AllInRange d n t → map f t ≡ map g t
map_agree e none = refl
map_agree e (more {c = c} a cs) = λ k. e c a k ∷ map_agree e cs k

pub map_same : {d n : ℕ} {f : Pauli → Pauli} {t : List Pauli} → ((p : Pauli) → InRange d n p → f p ≡ p) → AllInRange d n t → map f t ≡ t
map_same e none = refl
map_same e (more {c = c} a cs) = λ k. e c a k ∷ map_same e cs k

-- ---- the units' tableau
pub units_range : (d n : ℕ) → 1 < d → AllInRange d n (units n)
units_range d n h = go (up_from 0 (2 * n))
  where
    go : (js : List ℕ) → AllInRange d n (map (unit n) js)
    go [] = none
    go (j ∷ js) = more (unit_range d n j h) (go js)

pub length_units : (n : ℕ) → length (units n) ≡ 2 * n
length_units n = length-map (up_from 0 (2 * n)) (unit n) ∙ length_up_from 0 (2 * n)

pub column_units : (n j : ℕ) → j < 2 * n → column n (units n) j ≡ unit n j
column_units n j h = get_d_up_from (unit n) (phase_only n 0) 0 (2 * n) j h ∙ ap (unit n) (omega arith)

pub units_formed : (d n : ℕ) → 1 < d → WellFormed d n (units n)
units_formed d n one = record { columns = length_units n; ranges = units_range d n one }

pub units_sound : (d n : ℕ) → 1 < d → Sound d n (units n)
units_sound d n one = record {
  pairing = record { pairs = λ j k l h. (λ i. comm d (column_units n j (before j k l h) i) (column_units n k h i)) ∙ comm_units d n j k one l h };
  parities = record { even = λ j l. ap (parity d) (column_units n j l) ∙ unit_parity d n j };
}
  where
    before : (j k : ℕ) → j < k → k < 2 * n → j < 2 * n
    before j k l h = omega arith

-- a map that keeps products has a sound tableau
pub hom_formed : {d n : ℕ} {f : Pauli → Pauli} → 1 < d → Hom d n f → WellFormed d n (map f (units n))
hom_formed {d} {n} one m = map_formed m (units_formed d n one)

pub hom_sound : {d n : ℕ} {f : Pauli → Pauli} → 1 < d → Hom d n f → Sound d n (map f (units n))
hom_sound {d} {n} one m = map_sound (omega arith) m (units_formed d n one) (units_sound d n one)
