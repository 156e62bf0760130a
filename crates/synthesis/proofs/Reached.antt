-- What holds of every state that the reduction comes to, and that a legal row keeps it.
use mathlib.Core.Bool.{cond}
use mathlib.Core.Path.{◌≡◌, ◌∙◌, ap}
use mathlib.Core.List.{List, map, map-map}
use mathlib.Core.Logic.{◌≢◌}
use Prim.Native.Nat.{ℕ, ◌<◌}
use native.Mathlib.Omega.{arith}
use lib.Dec.{eqb}
use Rattle.arith.proofs.Cases.{eqb_case}
use Rattle.pauli.specs.Pauli.{Pauli}
use Rattle.gates.specs.Row.{Row, Legal, AllLegal, more, apply}
use Rattle.gates.proofs.Rows.{row_hom}
use Rattle.gates.proofs.Run.{run_last}
use Rattle.tableau.specs.Tableau.{WellFormed, Sound}
use Rattle.tableau.proofs.Columns.{map_formed, map_sound}
use Rattle.synthesis.specs.Inner.Reduce.{State, put}

pub record Reached (d n : ℕ) (t₀ : List Pauli) (s : State) : Type 0 where
  pub large : 1 < d
  -- the rows so far are legal and lead here from the first tableau
  pub legal : AllLegal d n s.rows
  pub forth : s.tableau ≡ map (run_last d s.rows) t₀
  pub formed : WellFormed d n s.tableau
  pub sound : Sound d n s.tableau

pub put_reached : {d n : ℕ} {t₀ : List Pauli} {s : State} (r : Row) → Legal d n r → Reached d n t₀ s → Reached d n t₀ (put d r s)
put_reached {d} {n} {t₀} {s} r l h =
    let m = row_hom r h.large l in
    record {
      large = h.large;
      legal = more l h.legal;
      forth = ap (map (apply d r)) h.forth ∙ map-map (apply d r) (run_last d s.rows) t₀;
      formed = map_formed m h.formed;
      sound = map_sound (omega (arith, h.large)) m h.formed h.sound;
    }

-- a row that is put or not
pub choose_case : (P : State → Type 0) (k m : ℕ) (a b : State) → (k ≡ m → P a) → (k ≢ m → P b) → P (cond (eqb k m) a b)
choose_case P k m a b f g = eqb_case (λ c. P (cond c a b)) k m f g
