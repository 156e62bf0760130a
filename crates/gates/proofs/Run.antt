-- Lists of legal rows: a run keeps products and phases, and the undo rows in the other order undo it.
use mathlib.Core.Path.{◌≡◌, refl, sym, ◌∙◌, ap}
use mathlib.Core.List.{List, [], ◌∷◌, ◌++◌, map, map-append}
use Prim.Native.Nat.{ℕ, ◌+◌, ◌<◌}
use Rattle.arith.specs.Bytes.{tab}
use Rattle.arith.proofs.Bytes.{tab_more}
use Rattle.pauli.specs.Pauli.{Pauli, InRange}
use Rattle.pauli.proofs.Hom.{Hom, hom_id, hom_then}
use Rattle.gates.specs.Row.{Row, apply, run, undo, AllLegal, none, more}
use Rattle.gates.specs.Written.{WrittenRow, meant}
use Rattle.gates.proofs.Rows.{row_hom, legal_undo, undoes}

pub run_append : (d : ℕ) (rs qs : List Row) (p : Pauli) → run d (rs ++ qs) p ≡ run d qs (run d rs p)
run_append d [] qs p = refl
run_append d (r ∷ rs) qs p = run_append d rs qs (apply d r p)

pub run_hom : {d n : ℕ} {rs : List Row} → 1 < d → AllLegal d n rs → Hom d n (run d rs)
run_hom {d} {n} large none = hom_id d n
run_hom large (more {r = r} l a) = hom_then (row_hom r large l) (run_hom large a)

-- a loop over a table of rows: one row more, none taken, and after row i
pub rows_more : (f : ℕ → WrittenRow) (i : ℕ) → map meant (tab f (i + 1)) ≡ map meant (tab f i) ++ (meant (f i) ∷ [])
rows_more f i = ap (map meant) (tab_more f i) ∙ map-append meant (tab f i) (f i ∷ [])

pub run_start : (d : ℕ) (f : ℕ → WrittenRow) (p : Pauli) → p ≡ run d (map meant (tab f 0)) p
unfolding tab
run_start d f p = refl

pub run_next : (d : ℕ) (f : ℕ → WrittenRow) (i : ℕ) (p : Pauli) {q s : Pauli} → q ≡ run d (map meant (tab f i)) p → s ≡ apply d (meant (f i)) q → s ≡ run d (map meant (tab f (i + 1))) p
run_next d f i p e g =
    g
    ∙ ap (apply d (meant (f i))) e
    ∙ sym (run_append d (map meant (tab f i)) (meant (f i) ∷ []) p)
    ∙ ap (λ (l : List Row). run d l p) (sym (rows_more f i))

-- ---- rows kept with the last one first
-- what they carry a Pauli to
abbrev pub run_last : ℕ → List Row → Pauli → Pauli
run_last d [] p = p
run_last d (r ∷ rs) p = apply d r (run_last d rs p)

run_last_hom : {d n : ℕ} {rs : List Row} → 1 < d → AllLegal d n rs → Hom d n (run_last d rs)
run_last_hom {d} {n} large none = hom_id d n
run_last_hom large (more {r = r} l a) = hom_then (run_last_hom large a) (row_hom r large l)

-- their undo rows, in the same order, are legal and lead back
pub undo_legal : {d n : ℕ} {rs : List Row} → 1 < d → AllLegal d n rs → AllLegal d n (map (undo d) rs)
undo_legal large none = none
undo_legal {d} {n} large (more {r = r} l a) = more (legal_undo d n r large l) (undo_legal large a)

pub run_undoes : {d n : ℕ} {p : Pauli} {rs : List Row} → 1 < d → AllLegal d n rs → InRange d n p → run d (map (undo d) rs) (run_last d rs p) ≡ p
run_undoes large none a = refl
run_undoes {d} {n} {p} large (more {r = r} {rs = rs} l ls) a =
    ap (run d (map (undo d) rs)) (undoes d n r large l ((run_last_hom large ls).range p a)) ∙ run_undoes large ls a
