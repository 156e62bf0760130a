-- Laws of the table: reading a number, storing in a column, and loops that change column after column. Assumes nothing.
use mathlib.Core.Path.{◌≡◌, refl, sym, ◌∙◌, ap, subst}
use mathlib.Core.List.{List, map}
use mathlib.Core.Logic.{◌≢◌}
use Prim.Native.Nat.{ℕ, zero, suc, ◌+◌, ◌*◌, ◌≤◌, ◌<◌}
use native.Mathlib.Omega.{arith}
use lib.ListN.{length, get_or, set, replicate, length-set, length-map}
use lib.Seq.{get_or-set_same, get_or-set_other, ext_get_or, map-set}
use Rattle.std.proofs.lemmas.List.{get_or-map}
use Rattle.arith.specs.Bytes.{tab}
use Rattle.arith.specs.declared.residue.Phase.{Phase}
use Rattle.arith.specs.declared.residue.Residue.{Residue}
use Rattle.arith.proofs.Bytes.{tab_at, tab_ext, tab_map, tab_length}
use Rattle.arith.proofs.Cases.{by_eq}
use Rattle.pauli.specs.Pauli.{Pauli, phase_only}
use Rattle.pauli.specs.Inner.View.{at, entries}
use Rattle.pauli.specs.Inner.Touched.{view_touched, touched, replaced, Has}
use Rattle.pauli.specs.declared.touched.Touched.{Touched as Code}
use Rattle.pauli.proofs.Entries.{entry, entries_set, entries_zeros}
use Rattle.pauli.proofs.Ranges.{pauli_path}
use Rattle.tableau.specs.Tableau.{column}
use Rattle.tableau.specs.declared.column.Column.{Column}
use Rattle.tableau.specs.declared.column.Table.{Table}
use Rattle.tableau.specs.Inner.View.{column_view, table_view}

-- ---- the numbers of a column, as the view has them
module _ (n : ℕ) (t : Table) (c : ℕ) (e : Column) (h : c < 2 * n) (l : c < 32) where
  pub view_column : column n (table_view n t) c ≡ column_view n (get_or t.columns c e)
  unfolding table_view
  view_column = tab_at (column n (map (column_view n) t.columns)) (2 * n) c (phase_only n 0) h ∙ get_or-map (column_view n) t.columns c e (phase_only n 0) (omega (arith, t.size))

  pub view_v : (i : ℕ) → i < n → get_or (column n (table_view n t) c).v i 0 ≡ at (get_or t.columns c e).v i
  unfolding column_view
  view_v i m = ap (λ (p : Pauli). get_or p.v i 0) view_column ∙ entry (get_or t.columns c e).v m

  pub view_w : (i : ℕ) → i < n → get_or (column n (table_view n t) c).w i 0 ≡ at (get_or t.columns c e).w i
  unfolding column_view
  view_w i m = ap (λ (p : Pauli). get_or p.w i 0) view_column ∙ entry (get_or t.columns c e).w m

  pub view_phase : (column n (table_view n t) c).phase ≡ (get_or t.columns c e).phase.0
  unfolding column_view
  view_phase = ap (λ (p : Pauli). p.phase) view_column

-- how many columns the view has
pub table_length : (n : ℕ) (t : Table) → length (table_view n t) ≡ 2 * n
unfolding table_view
table_length n t = tab_length (column n (map (column_view n) t.columns)) (2 * n)

-- the columns one by one, by their numbers
pub view_table : (n : ℕ) (t : Table) (f : ℕ → Pauli) → ((c : ℕ) → c < 2 * n → column n (table_view n t) c ≡ f c) → table_view n t ≡ tab f (2 * n)
unfolding table_view
view_table n t f h = tab_ext (column n (map (column_view n) t.columns)) f (2 * n) (λ c l. sym (tab_at (column n (map (column_view n) t.columns)) (2 * n) c (phase_only n 0) l) ∙ h c l)

-- every column changed in the same way
pub view_map : (n : ℕ) (t t' : Table) (f : Pauli → Pauli) → ((c : ℕ) → c < 2 * n → column n (table_view n t') c ≡ f (column n (table_view n t) c)) → table_view n t' ≡ map f (table_view n t)
view_map n t t' f h = view_table n t' (λ c. f (column n (table_view n t) c)) h ∙ sym (ap (map f) (view_table n t (column n (table_view n t)) (λ c l. refl)) ∙ tab_map f (column n (table_view n t)) (2 * n))

-- ---- a store in a column
-- a Pauli with another phase, or with one entry set
abbrev pub with_phase : ℕ → Pauli → Pauli
with_phase h p = record { phase = h; v = p.v; w = p.w }

abbrev pub with_v : ℕ → ℕ → Pauli → Pauli
with_v i x p = record { phase = p.phase; v = set p.v i x; w = p.w }

abbrev pub with_w : ℕ → ℕ → Pauli → Pauli
with_w i x p = record { phase = p.phase; v = p.v; w = set p.w i x }

module _ (n : ℕ) (c : Column) where
  pub store_phase : (h : Phase) → column_view n (record { phase = h; v = c.v; w = c.w; places = c.places }) ≡ with_phase h.0 (column_view n c)
  unfolding column_view
  store_phase h = refl

  pub store_v : (i : ℕ) (x : Residue) (places : (length (set c.v i x) ≡ 16) × (length c.w ≡ 16)) → i < 16 → column_view n (record { phase = c.phase; v = set c.v i x; w = c.w; places = places }) ≡ with_v i x.0 (column_view n c)
  unfolding column_view
  store_v i x places l = pauli_path refl (entries_set n c.v i x (omega (arith, c.places))) refl

  pub store_w : (i : ℕ) (x : Residue) (places : (length c.v ≡ 16) × (length (set c.w i x) ≡ 16)) → i < 16 → column_view n (record { phase = c.phase; v = c.v; w = set c.w i x; places = places }) ≡ with_w i x.0 (column_view n c)
  unfolding column_view
  store_w i x places l = pauli_path refl refl (entries_set n c.w i x (omega (arith, c.places)))

-- ---- the numbers that a row touches, in a column
pub column_touched : (n : ℕ) (c : Column) {i j : ℕ} → i < n → j < n → touched i j (column_view n c) ≡ record { phase = c.phase.0; vi = at c.v i; wi = at c.w i; vj = at c.v j; wj = at c.w j }
unfolding column_view
column_touched n c {i} {j} li lj k = record { phase = c.phase.0; vi = entry c.v li k; wi = entry c.w li k; vj = entry c.v lj k; wj = entry c.w lj k }

pub column_has : (n : ℕ) (c : Column) {i : ℕ} → i < n → Has i (column_view n c)
unfolding column_view
column_has n c l = record { in_v = omega (arith, tab_length (at c.v) n); in_w = omega (arith, tab_length (at c.w) n) }

-- the five stored, one after the other
pub column_replaced : (n : ℕ) (c : Column) (t : Code) (i j : ℕ) (places : (length (set (set c.v i t.vi) j t.vj) ≡ 16) × (length (set (set c.w i t.wi) j t.wj) ≡ 16)) → i < 16 → j < 16
    → column_view n (record { phase = t.phase; v = set (set c.v i t.vi) j t.vj; w = set (set c.w i t.wi) j t.wj; places = places }) ≡ replaced i j (view_touched t) (column_view n c)
unfolding column_view
column_replaced n c t i j places li lj = pauli_path refl (twice c.v t.vi t.vj c.places.0) (twice c.w t.wi t.wj c.places.1)
  where
    twice : (xs : List Residue) (x y : Residue) → length xs ≡ 16 → entries n (set (set xs i x) j y) ≡ set (set (entries n xs) i x.0) j y.0
    twice xs x y e = entries_set n (set xs i x) j y (omega (arith, length-set xs i x, e)) ∙ ap (λ (ys : List ℕ). set ys j y.0) (entries_set n xs i x (omega (arith, e)))

-- ---- a fresh table: zeros
zeros_view : (n m : ℕ) (z : Column) → column_view n z ≡ phase_only n 0 → (k : ℕ) → column n (map (column_view n) (replicate m z)) k ≡ phase_only n 0
zeros_view n zero z e k = refl
zeros_view n (suc m) z e zero = e
zeros_view n (suc m) z e (suc k) = zeros_view n m z e k

pub fresh_column : (n : ℕ) (t : Table) (z : Column) → t.columns ≡ replicate 32 z → z.phase.0 ≡ 0 → z.v ≡ replicate 16 (record { 0 = 0 }) → z.w ≡ replicate 16 (record { 0 = 0 }) → (k : ℕ) → k < 2 * n → column n (table_view n t) k ≡ phase_only n 0
unfolding table_view column_view
fresh_column n t z e h v w k l =
    let zeros = λ (xs : List Residue) (q : xs ≡ replicate 16 (record { 0 = 0 })). ap (entries n) q ∙ entries_zeros 16 n in
    tab_at (column n (map (column_view n) t.columns)) (2 * n) k (phase_only n 0) l ∙ ap (λ (cs : List Column). column n (map (column_view n) cs) k) e ∙ zeros_view n 32 z (pauli_path h (zeros z.v v) (zeros z.w w)) k

-- ---- a column stored
tab_set : {A : Type 0} (xs : List A) (z : A) (n j : ℕ) (x : A) → j < length xs → tab (λ k. get_or (set xs j x) k z) n ≡ set (tab (λ k. get_or xs k z) n) j x
tab_set {A} xs z n j x h = ext_get_or z (tab (λ k. get_or (set xs j x) k z) n) (set old j x) (tab_length (λ k. get_or (set xs j x) k z) n ∙ sym (length-set old j x ∙ tab_length (λ k. get_or xs k z) n)) at_each
  where
    old : List A
    old = tab (λ k. get_or xs k z) n

    at_each : (k : ℕ) → k < length (tab (λ k. get_or (set xs j x) k z) n) → get_or (tab (λ k. get_or (set xs j x) k z) n) k z ≡ get_or (set old j x) k z
    at_each k l =
        let inside : k < n = omega (arith, tab_length (λ k. get_or (set xs j x) k z) n) in
        tab_at (λ k. get_or (set xs j x) k z) n k z inside ∙ by_eq k j
        (λ e. rw e (get_or-set_same xs j x z h ∙ sym (get_or-set_same old j x z (omega (arith, inside, tab_length (λ k. get_or xs k z) n)))))
        (λ ne. get_or-set_other xs j k x z ne ∙ sym (tab_at (λ k. get_or xs k z) n k z inside) ∙ sym (get_or-set_other old j k x z ne))

pub view_set : (n : ℕ) (t : Table) (j : ℕ) (c : Column) (size : length (set t.columns j c) ≡ 32) → j < 32 → table_view n (record { columns = set t.columns j c; size = size }) ≡ set (table_view n t) j (column_view n c)
unfolding table_view
view_set n t j c size h =
    let all = map (column_view n) t.columns in
    let e : length all ≡ 32 = length-map t.columns (column_view n) ∙ t.size in
    ap (λ (ps : List Pauli). tab (column n ps) (2 * n)) (map-set (column_view n) t.columns j c) ∙ tab_set all (phase_only n 0) (2 * n) j (column_view n c) (omega (arith, e))

-- ---- a loop that changes the columns of a table one after the other: P holds of those before j, the others are as they were
pub record Changed (n : ℕ) (P : ℕ → Pauli → Type 0) (j : ℕ) (old new : Table) : Type 0 where
  pub done : (k : ℕ) → k < j → P k (column n (table_view n new) k)
  pub left : (k : ℕ) → j ≤ k → column n (table_view n new) k ≡ column n (table_view n old) k

pub changed_none : (n : ℕ) (P : ℕ → Pauli → Type 0) (t : Table) → Changed n P 0 t t
changed_none n P t = record { done = λ k l. absurd (omega arith); left = λ k l. refl }

pub changed_more : (n : ℕ) (P : ℕ → Pauli → Type 0) (j : ℕ) {old : Table} (t : Table) (c : Column) (size : length (set t.columns j c) ≡ 32) → j < 2 * n → j < 32 → P j (column_view n c)
    → Changed n P j old t → Changed n P (j + 1) old (record { columns = set t.columns j c; size = size })
changed_more n P j t c size h l p a = record {
  done = λ k m. by_eq k j
      (λ e. subst (λ (y : ℕ). P y (column n new y)) (sym e) (subst (P j) (sym same) p))
      (λ ne. subst (P k) (sym (other k ne)) (a.done k (omega arith)));
  left = λ k m. other k (λ e. omega arith) ∙ a.left k (omega arith);
}
  where
    new : List Pauli
    new = table_view n (record { columns = set t.columns j c; size = size })

    same : column n new j ≡ column_view n c
    same = ap (λ (ps : List Pauli). column n ps j) (view_set n t j c size l) ∙ get_or-set_same (table_view n t) j (column_view n c) (phase_only n 0) (omega (arith, table_length n t))

    other : (k : ℕ) → k ≢ j → column n new k ≡ column n (table_view n t) k
    other k ne = ap (λ (ps : List Pauli). column n ps k) (view_set n t j c size l) ∙ get_or-set_other (table_view n t) j k (column_view n c) (phase_only n 0) ne
