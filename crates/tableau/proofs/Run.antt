-- Lists of legal rows: a list carries each Pauli to its image under the list's tableau, which is sound.
use mathlib.Core.Path.{◌≡◌, refl, sym, ◌∙◌, ap, ap₂}
use mathlib.Core.List.{List, [], ◌∷◌, ◌++◌, map, map-map}
use Prim.Native.Nat.{ℕ, ◌+◌, ◌*◌, ◌<◌}
use native.Mathlib.Omega.{arith}
use Rattle.pauli.specs.Pauli.{Pauli, InRange, unit}
use Rattle.arith.specs.Bytes.{tab}
use Rattle.gates.specs.Row.{Row, AllLegal, apply, run}
use Rattle.gates.specs.Written.{WrittenRow, meant, row_at}
use Rattle.gates.proofs.Run.{run_append, run_hom, run_start, run_next}
use Rattle.tableau.specs.Tableau.{units, column, tableau_of, image, WellFormed, Sound, compose}
use Rattle.tableau.proofs.Columns.{units_range, column_map, column_units, hom_formed, hom_sound, map_agree}
use Rattle.tableau.proofs.Image.{hom_image}

module _ {d n : ℕ} (one : 1 < d) {rows : List Row} (legal : AllLegal d n rows) where
  -- "the image of a Pauli under a tableau": a list carries every Pauli to its image under the list's tableau
  pub run_image : (p : Pauli) → InRange d n p → run d rows p ≡ image d n (tableau_of d n rows) p
  run_image p a = hom_image one (run_hom one legal) p a

  -- the tableau of a list is well formed and sound
  pub tableau_formed : WellFormed d n (tableau_of d n rows)
  tableau_formed = hom_formed one (run_hom one legal)

  pub tableau_sound : Sound d n (tableau_of d n rows)
  tableau_sound = hom_sound one (run_hom one legal)

  -- "holds in column j what the list makes of unit Pauli j"
  pub tableau_column : (j : ℕ) → j < 2 * n → column n (tableau_of d n rows) j ≡ run d rows (unit n j)
  tableau_column j l = column_map (omega arith) (run_hom one legal) (units n) j ∙ ap (run d rows) (column_units n j l)

-- the tableau of two lists, one after the other
pub tableau_append : {d n : ℕ} → 1 < d → (rs : List Row) {ss : List Row} → AllLegal d n rs → AllLegal d n ss → tableau_of d n (rs ++ ss) ≡ compose d n (tableau_of d n rs) (tableau_of d n ss)
tableau_append {d} {n} one rs {ss} a b =
    map_agree (λ p r. run_append d rs ss p ∙ run_image one b (run d rs p) ((run_hom one a).range p r)) (units_range d n one)
    ∙ sym (map-map (image d n (tableau_of d n ss)) (run d rs) (units n))

-- ---- row by row: a loop that puts each row behind all columns, before the first row and after row i, of rows however they are given
pub rows_start : (d : ℕ) (f : ℕ → WrittenRow) (t : List Pauli) → t ≡ map (run d (map meant (tab f 0))) t
rows_start d f [] = refl
rows_start d f (p ∷ t) = ap₂ (λ (x : Pauli) (l : List Pauli). x ∷ l) (run_start d f p) (rows_start d f t)

pub rows_none : (d : ℕ) (b : List ℕ) (t : List Pauli) {u : List Pauli} → u ≡ t → u ≡ map (run d (map meant (tab (row_at b) 0))) t
rows_none d b t e = e ∙ rows_start d (row_at b) t

rows_more : (d : ℕ) (f : ℕ → WrittenRow) (i : ℕ) (t : List Pauli) → map (apply d (meant (f i))) (map (run d (map meant (tab f i))) t) ≡ map (run d (map meant (tab f (i + 1)))) t
rows_more d f i [] = refl
rows_more d f i (p ∷ t) = ap₂ (λ (x : Pauli) (l : List Pauli). x ∷ l) (run_next d f i p refl refl) (rows_more d f i t)

pub rows_step : (d : ℕ) (f : ℕ → WrittenRow) (i : ℕ) (t : List Pauli) {u s : List Pauli} → u ≡ map (run d (map meant (tab f i))) t → s ≡ map (apply d (meant (f i))) u → s ≡ map (run d (map meant (tab f (i + 1)))) t
rows_step d f i t e g = g ∙ ap (map (apply d (meant (f i)))) e ∙ rows_more d f i t

-- of the rows in bytes
pub rows_next : (d : ℕ) (b : List ℕ) (i : ℕ) (t : List Pauli) {u s : List Pauli} {w : WrittenRow} → u ≡ map (run d (map meant (tab (row_at b) i))) t → w ≡ row_at b i → s ≡ map (apply d (meant w)) u → s ≡ map (run d (map meant (tab (row_at b) (i + 1)))) t
rows_next d b i t e r g = g ∙ rw r (ap (map (apply d (meant (row_at b i)))) e) ∙ rows_more d (row_at b) i t
