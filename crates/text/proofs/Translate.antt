-- The translation of a partner's list in place: a row's power is written anew, and after the last row every row is translated. Assumes nothing.
use mathlib.Core.Path.{◌≡◌, sym, ap, ap₂, ◌∙◌, refl}
use mathlib.Core.Logic.{◌≢◌}
use mathlib.Core.List.{List, [], ◌∷◌, map}
use Prim.Native.Nat.{ℕ, suc, ◌+◌, ◌*◌, ◌/◌, ◌%◌, ◌≤◌, ◌<◌}
use native.Mathlib.Nat.{mod-add-div'}
use native.Mathlib.Numerals.{add-one}
use native.Mathlib.Omega.{arith}
use lib.ListN.{length, get_or, set, length-set}
use lib.Seq.{sets, get_or-set_same, get_or-set_other}
use Rattle.arith.specs.Bytes.{tab, number_at, bytes_of}
use Rattle.arith.proofs.Bytes.{tab_ext, tab_map}
use Rattle.arith.proofs.Cases.{by_eq}
use Rattle.gates.specs.Written.{with_power, row_at, list_rows}
use Rattle.gates.proofs.Written.{row_path}
use Rattle.text.specs.Partner.{translated}
use Rattle.text.proofs.PartnerRows.{translated_power}

-- ---- number k of the bytes b is written anew, as x
module _ (b : List ℕ) (k x : ℕ) where
  byte_kept : (i : ℕ) → i ≢ 2 * k → i ≢ suc (2 * k) → get_or (set (set b (2 * k) (x % 256)) (suc (2 * k)) (x / 256)) i 0 ≡ get_or b i 0
  byte_kept i p q = get_or-set_other (set b (2 * k) (x % 256)) (suc (2 * k)) i (x / 256) 0 q ∙ get_or-set_other b (2 * k) i (x % 256) 0 p

  number_kept : (j : ℕ) → j ≢ k → number_at (sets b (2 * k) (bytes_of (x ∷ []))) j ≡ number_at b j
  unfolding number_at bytes_of
  number_kept j ne =
      ap₂ (λ (u v : ℕ). u + 256 * v)
      (byte_kept (2 * j) (λ (e : 2 * j ≡ 2 * k). ne (omega arith)) (λ (e : 2 * j ≡ suc (2 * k)). omega arith))
      (byte_kept (2 * j + 1) (λ (e : 2 * j + 1 ≡ 2 * k). omega arith) (λ (e : 2 * j + 1 ≡ suc (2 * k)). ne (omega arith)))

  number_put : 2 * k + 1 < length b → number_at (sets b (2 * k) (bytes_of (x ∷ []))) k ≡ x
  unfolding number_at bytes_of
  number_put h =
      let l : List ℕ = set b (2 * k) (x % 256) in
      let low = get_or-set_other l (suc (2 * k)) (2 * k) (x / 256) 0 (λ (e : 2 * k ≡ suc (2 * k)). omega arith) ∙ get_or-set_same b (2 * k) (x % 256) 0 (omega arith) in
      let high = ap (λ (i : ℕ). get_or (set l (suc (2 * k)) (x / 256)) i 0) (add-one (2 * k)) ∙ get_or-set_same l (suc (2 * k)) (x / 256) 0 (omega (arith, length-set b (2 * k) (x % 256))) in
      omega (arith, low, high, mod-add-div' x 256)

-- ---- the power of row r is written anew
module _ (b : List ℕ) (r x : ℕ) where
  row_put : 8 * r + 8 ≤ length b → row_at (sets b (2 * (4 * r + 3)) (bytes_of (x ∷ []))) r ≡ with_power (row_at b r) x
  row_put h =
      row_path (number_kept b (4 * r + 3) x (4 * r) (λ (e : 4 * r ≡ 4 * r + 3). omega arith)) (number_kept b (4 * r + 3) x (4 * r + 1) (λ (e : 4 * r + 1 ≡ 4 * r + 3). omega arith))
      (number_kept b (4 * r + 3) x (4 * r + 2) (λ (e : 4 * r + 2 ≡ 4 * r + 3). omega arith)) (number_put b (4 * r + 3) x (omega arith))

  row_kept : (i : ℕ) → i ≢ r → row_at (sets b (2 * (4 * r + 3)) (bytes_of (x ∷ []))) i ≡ row_at b i
  row_kept i ne =
      row_path (number_kept b (4 * r + 3) x (4 * i) (λ (e : 4 * i ≡ 4 * r + 3). omega arith)) (number_kept b (4 * r + 3) x (4 * i + 1) (λ (e : 4 * i + 1 ≡ 4 * r + 3). omega arith))
      (number_kept b (4 * r + 3) x (4 * i + 2) (λ (e : 4 * i + 2 ≡ 4 * r + 3). omega arith)) (number_kept b (4 * r + 3) x (4 * i + 3) (λ (e : 4 * i + 3 ≡ 4 * r + 3). ne (omega arith)))

-- ---- the loop: the first r rows are translated, and the others are as they were
pub record Partly (d r : ℕ) (old new : List ℕ) : Type 0 where
  pub before : (i : ℕ) → i < r → row_at new i ≡ translated d (row_at old i)
  pub after : (i : ℕ) → r ≤ i → row_at new i ≡ row_at old i

pub partly_none : (d : ℕ) (list : List ℕ) → Partly d 0 list list
partly_none d list = record { before = λ i l. absurd (omega arith); after = λ i l. refl }

pub partly_next : (d r : ℕ) (old new : List ℕ) {x : ℕ} {last : List ℕ} → 8 * r + 8 ≤ length new → Partly d r old new → x ≡ (translated d (row_at new r)).power
    → last ≡ sets new (2 * (4 * r + 3)) (bytes_of (x ∷ [])) → Partly d (r + 1) old last
partly_next d r old new {x} {last} h p q f = rw f (record { before = λ i l. by_eq i r (here i) (λ ne. row_kept new r x i ne ∙ p.before i (omega arith)); after = λ i l. row_kept new r x i (λ (e : i ≡ r). omega arith) ∙ p.after i (omega arith) })
  where
    here : (i : ℕ) → i ≡ r → row_at (sets new (2 * (4 * r + 3)) (bytes_of (x ∷ []))) i ≡ translated d (row_at old i)
    here i e =
        ap (row_at (sets new (2 * (4 * r + 3)) (bytes_of (x ∷ [])))) e
        ∙ row_put new r x h
        ∙ ap (with_power (row_at new r)) q
        ∙ translated_power d (row_at new r)
        ∙ ap (translated d) (p.after r (omega arith))
        ∙ ap (λ (j : ℕ). translated d (row_at old j)) (sym e)

-- every row
pub partly_all : (d : ℕ) (old new : List ℕ) → length new ≡ length old → Partly d (length old / 8) old new → list_rows new ≡ map (translated d) (list_rows old)
partly_all d old new e p =
    ap (λ (m : ℕ). tab (row_at new) (m / 8)) e
    ∙ tab_ext (row_at new) (λ i. translated d (row_at old i)) (length old / 8) p.before
    ∙ sym (tab_map (translated d) (row_at old) (length old / 8))
