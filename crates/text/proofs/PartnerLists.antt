-- What the text program prints for a G file: the tableau of the translated rows, or a refusal. Assumes nothing.
use mathlib.Core.Path.{◌≡◌, sym, ap, ap₂, ◌∙◌}
use mathlib.Core.Logic.{◌↔◌}
use mathlib.Core.Bool.{Bool, true}
use mathlib.Core.List.{List, map}
use Rattle.std.specs.Prelude.{Result, Ok, Err}
use Prim.Native.Nat.{ℕ, ◌*◌}
use lib.ListN.{length, length-map}
use Rattle.arith.specs.Refusals.{number_of, or_else, given_of, list_size_of, row_of, Dimension}
use Rattle.arith.specs.declared.checks.Refusal.{Refusal}
use Rattle.arith.proofs.Refusals.{good, not_zero, or_else_none, given_good, row_good}
use Rattle.arith.proofs.Passes.{both_pass}
use Rattle.gates.specs.Written.{WrittenRow, all_rows, all_legal_rows, list_rows}
use Rattle.text.specs.Partner.{legal_partner, translated}
use Rattle.text.specs.Format.{list_file, partner_file, print_refusal}
use Rattle.text.specs.Convert.{row_count_of, list_refusal, partner_refusal, PrintsFor}
use Rattle.text.specs.Inner.FromBytes.{partner_list_refusal, RowsConvert}
use Rattle.text.proofs.Lists.{rows_size}
use Rattle.text.proofs.PartnerRows.{all_translated, partner_legal}

-- ---- a partner's list that isn't refused is translated to a list that isn't
rows_pass : (legal : Bool) → legal ≡ true → row_of legal ≡ 0
unfolding row_of
rows_pass legal e = rw e

pub translated_accepted : (d n : ℕ) (rows : List WrittenRow) → partner_refusal d n rows ≡ 0 → list_refusal d n (map (translated d) rows) ≡ 0
translated_accepted d n rows e =
    let a = or_else_none (given_of d n) _ e in
    let b = or_else_none (row_count_of (length rows)) _ a.1 in
    let large = (given_good a.0).dimension.d_low in
    both_pass a.0 (both_pass (ap row_count_of (length-map rows (translated d)) ∙ b.0)
    (rows_pass _ (all_translated d n rows large (partner_legal d n rows (row_good _ b.1)))))

-- and a G file that isn't refused prints what the L file of the translated rows prints
pub partner_as_list : (d n : ℕ) (rows : List WrittenRow) (output : List ℕ) → partner_refusal d n rows ≡ 0
    → PrintsFor (partner_file d n rows) output ↔ PrintsFor (list_file d n (map (translated d) rows)) output
partner_as_list d n rows output z =
    let a = translated_accepted d n rows z in (
      λ p. record { refused = λ r. absurd (r a); accepted = λ r. p.accepted z },
      λ p. record { refused = λ r. absurd (r z); accepted = λ r. p.accepted a },
    )

-- ---- what is printed for the bytes of a partner's list
module _ (d n : ℕ) (list : List ℕ) where
  refusal_same : (rows : List WrittenRow) → length list ≡ 8 * length rows → list_rows list ≡ rows → partner_list_refusal d n list ≡ partner_refusal d n rows
  refusal_same rows l e = ap₂ (λ (x : ℕ) (ws : List WrittenRow). or_else (given_of d n) (or_else x (row_of (all_rows (legal_partner d n) ws)))) (rows_size list rows l) e

  -- a refusal, where the check found r
  pub partner_refused : {A : Type 0} {r : Result A Refusal} {k : Refusal} {output : List ℕ} → number_of r ≡ partner_list_refusal d n list → r ≡ Err k → output ≡ print_refusal (number_of r) → RowsConvert partner_file d n list output
  partner_refused e f p = λ rows l q.
      let same = e ∙ refusal_same rows l q in
      record { refused = λ z. p ∙ ap print_refusal same; accepted = λ z. absurd (not_zero (same ∙ z) f) }

  -- past the check the rows are legal
  pub partner_passed : {A : Type 0} {r : Result A Refusal} {m : A} → number_of r ≡ partner_list_refusal d n list → r ≡ Ok m → Dimension d × (all_legal_rows d n (list_rows list) ≡ true)
  partner_passed e f =
      let a = or_else_none (given_of d n) _ (good _ e f) in
      let b = or_else_none (list_size_of (length list)) _ a.1 in
      ((given_good a.0).dimension, partner_legal d n (list_rows list) (row_good _ b.1))

  -- and once they are translated they are printed as an L file's are
  pub partner_printed : {A : Type 0} {r : Result A Refusal} {m : A} (new output : List ℕ) → number_of r ≡ partner_list_refusal d n list → r ≡ Ok m → length new ≡ length list
      → list_rows new ≡ map (translated d) (list_rows list) → RowsConvert list_file d n new output → RowsConvert partner_file d n list output
  partner_printed new output e f k t p = λ rows l q.
      (partner_as_list d n rows output (sym (refusal_same rows l q) ∙ good _ e f)).1
      (p (map (translated d) rows) (k ∙ l ∙ ap (λ (m : ℕ). 8 * m) (sym (length-map rows (translated d)))) (t ∙ ap (map (translated d)) q))
