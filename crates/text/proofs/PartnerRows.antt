-- Laws of a partner's rows (document 02, P3): what each is translated to, that it is legal, and that translating twice gives it back. Assumes nothing.
use mathlib.Core.Path.{◌≡◌, refl, sym, ap, ◌∙◌}
use mathlib.Core.Logic.{◌⊎◌, inl, inr, ◌≢◌}
use mathlib.Core.Bool.{Bool, true, false, not}
use Rattle.std.specs.Prelude.{Result, Ok, Err, MatchResult}
use Rattle.std.proofs.lemmas.Bool.{false≢true}
use Rattle.gates.specs.Kind.{kind_number, NoKind, NumberedKind}
use Rattle.gates.specs.declared.kind.Kind.{Kind}
use Rattle.gates.specs.declared.kind.Kind.TheVariants as kind
use Rattle.text.specs.Inner.FromBytes.{undone_of}
use mathlib.Core.List.{List, [], ◌∷◌, map}
use Prim.Native.Nat.{ℕ, zero, suc, ◌+◌, ◌-◌, ◌≤◌, ◌<◌}
use native.Mathlib.Nat.{mul_comm}
use native.Mathlib.Omega.{arith}
use lib.Dec.{eqb}
use Rattle.arith.specs.declared.checks.Refusal.{Refusal}
use Rattle.arith.specs.Gcd.{gcd}
use Rattle.arith.specs.Units.{inverse_of}
use Rattle.arith.proofs.Cases.{by_eq}
use Rattle.arith.proofs.Cong.{cong_of_eq, cong_trans}
use Rattle.arith.proofs.Units.{inverse_times, inverse_unit, inverse_only}
use Rattle.arith.proofs.Refusals.{both_held}
use Rattle.gates.specs.Row.{undo}
use Rattle.gates.specs.Written.{WrittenRow, with_power, written, meant, highest, legal_row, all_rows, all_legal_rows}
use Rattle.gates.proofs.Rows.{legal_undo}
use Rattle.gates.proofs.Written.{legal_meant, legal_written, legal_highest, legal_unit, undo_m, undo_other}
use Rattle.text.specs.Partner.{legal_partner, our_power, translated}

-- ---- the kinds whose power changes: A, M and X
abbrev pub Changes : ℕ → Type 0
Changes kind = (kind ≡ 3) ⊎ ((kind ≡ 4) ⊎ (kind ≡ 5))

-- they are 3 to 5
pub changes : (kind : ℕ) → 3 ≤ kind → kind ≤ 5 → Changes kind
changes kind l h = by_eq kind 3 inl (λ a. inr (by_eq kind 4 inl (λ b. inr (omega arith))))

pub unchanged : (kind : ℕ) → (3 ≤ kind → kind ≤ 5 → ⊥) → Changes kind → ⊥
unchanged kind f (inl e) = f (omega arith) (omega arith)
unchanged kind f (inr (inl e)) = f (omega arith) (omega arith)
unchanged kind f (inr (inr e)) = f (omega arith) (omega arith)

-- the same by the kinds of gates
pub undone_changes : (k : Kind) → undone_of k ≡ true → Changes (kind_number k)
undone_changes kind.F e = absurd (false≢true e)
undone_changes kind.S e = absurd (false≢true e)
undone_changes kind.A e = inl refl
undone_changes kind.M e = inr (inl refl)
undone_changes kind.X e = inr (inr refl)
undone_changes kind.Z e = absurd (false≢true e)
undone_changes kind.C e = absurd (false≢true e)
undone_changes kind.W e = absurd (false≢true e)

pub kept_stays : (k : Kind) → undone_of k ≡ false → Changes (kind_number k) → ⊥
kept_stays k e h = false≢true (sym e ∙ back k h)
  where
    back : (k : Kind) → Changes (kind_number k) → undone_of k ≡ true
    back kind.F c = absurd (unchanged 1 (λ a b. omega arith) c)
    back kind.S c = absurd (unchanged 2 (λ a b. omega arith) c)
    back kind.A c = refl
    back kind.M c = refl
    back kind.X c = refl
    back kind.Z c = absurd (unchanged 6 (λ a b. omega arith) c)
    back kind.C c = absurd (unchanged 7 (λ a b. omega arith) c)
    back kind.W c = absurd (unchanged 8 (λ a b. omega arith) c)

pub no_kind_stays : (x : ℕ) → NoKind kind_number x → Changes x → ⊥
no_kind_stays x h (inl e) = h kind.A (sym e)
no_kind_stays x h (inr (inl e)) = h kind.M (sym e)
no_kind_stays x h (inr (inr e)) = h kind.X (sym e)

-- and by what is found of a kind's number
pub found_undone : {P : Kind → Type 0} (x : ℕ) (r : Result Kind Refusal) {b : Bool} → NumberedKind x r → MatchResult r P (λ e. b ≡ false) → ((k : Kind) → P k → b ≡ undone_of k)
    → (b ≡ true → Changes x) × (b ≡ false → Changes x → ⊥)
found_undone x (Ok k) n m h = (λ e. rw n at (undone_changes k (sym (h k m) ∙ e)), λ e. rw n at (kept_stays k (sym (h k m) ∙ e)))
found_undone x (Err k) n m h = (λ e. absurd (false≢true (sym m ∙ e)), λ e. no_kind_stays x n.1)

pub by_changes : {P : Type 0} (kind : ℕ) → (Changes kind → P) → ((Changes kind → ⊥) → P) → P
by_changes {P} kind f g = by_eq kind 3 (λ e. f (inl e)) (λ a. by_eq kind 4 (λ e. f (inr (inl e))) (λ b. by_eq kind 5 (λ e. f (inr (inr e))) (λ c. g (none a b c))))
  where
    none : kind ≢ 3 → kind ≢ 4 → kind ≢ 5 → Changes kind → ⊥
    none a b c (inl e) = a e
    none a b c (inr (inl e)) = b e
    none a b c (inr (inr e)) = c e

-- A and X: the two powers add up to d, as those of a row and of the row that undoes it do
abbrev AddsUp : ℕ → Type 0
AddsUp kind = (kind ≡ 3) ⊎ (kind ≡ 5)

power_sum : (d kind k : ℕ) → AddsUp kind → our_power d kind k ≡ d - k
unfolding our_power
power_sum d kind k (inl e) = rw e
power_sum d kind k (inr e) = rw e

power_undone : (d kind k : ℕ) → 0 < d → AddsUp kind → our_power d kind k ≡ highest d kind + 1 - k
unfolding our_power
power_undone d kind k p (inl e) = rw e (omega arith)
power_undone d kind k p (inr e) = rw e (omega arith)

power_m : (d kind k : ℕ) → kind ≡ 4 → our_power d kind k ≡ inverse_of d k
unfolding our_power
power_m d kind k e = rw e

power_same : (d kind k : ℕ) → (Changes kind → ⊥) → our_power d kind k ≡ k
unfolding our_power
power_same d zero k h = refl
power_same d (suc zero) k h = refl
power_same d (suc (suc zero)) k h = refl
power_same d (suc (suc (suc zero))) k h = absurd (h (inl refl))
power_same d (suc (suc (suc (suc zero)))) k h = absurd (h (inr (inl refl)))
power_same d (suc (suc (suc (suc (suc zero))))) k h = absurd (h (inr (inr refl)))
power_same d (suc (suc (suc (suc (suc (suc zero)))))) k h = refl
power_same d (suc (suc (suc (suc (suc (suc (suc zero))))))) k h = refl
power_same d (suc (suc (suc (suc (suc (suc (suc (suc zero)))))))) k h = refl
power_same d (suc (suc (suc (suc (suc (suc (suc (suc (suc kind))))))))) k h = refl

-- a row as it is, or the row that undoes it
pub translated_same : (d : ℕ) (w : WrittenRow) → (Changes w.kind → ⊥) → translated d w ≡ w
unfolding translated
translated_same d w h = ap (with_power w) (power_same d w.kind w.power h)

pub translated_undone : (d n : ℕ) (w : WrittenRow) → 0 < d → legal_row d n w ≡ true → Changes w.kind → translated d w ≡ written (undo d (meant w))
unfolding translated
translated_undone d n w p l (inl e) = ap (with_power w) (power_undone d w.kind w.power p (inl e)) ∙ undo_other d n w l (λ (q : w.kind ≡ 4). omega arith)
translated_undone d n w p l (inr (inl e)) = ap (with_power w) (power_m d w.kind w.power e) ∙ undo_m d n w l e
translated_undone d n w p l (inr (inr e)) = ap (with_power w) (power_undone d w.kind w.power p (inr e)) ∙ undo_other d n w l (λ (q : w.kind ≡ 4). omega arith)

-- only the power changes
pub translated_power : (d : ℕ) (w : WrittenRow) → with_power w (translated d w).power ≡ translated d w
unfolding translated
translated_power d w = refl

-- ---- translating twice gives the row back
inverse_back : (d k : ℕ) → 1 < d → k < d → gcd k d ≡ 1 → inverse_of d (inverse_of d k) ≡ k
inverse_back d k large l u = sym (inverse_only d (inverse_of d k) large (inverse_unit d k large u) k l (cong_trans (cong_of_eq (mul_comm (inverse_of d k) k)) (inverse_times d k large u)))

sum_below : (d kind k : ℕ) → AddsUp kind → k ≤ highest d kind → k ≤ d - 1
sum_below d kind k (inl e) h = rw e at h
sum_below d kind k (inr e) h = rw e at h

power_back : (d kind k : ℕ) → 0 < d → AddsUp kind → k ≤ highest d kind → our_power d kind (our_power d kind k) ≡ k
power_back d kind k p t h =
    let l = sum_below d kind k t h in
    let e : d - (d - k) ≡ k = omega arith in
    power_sum d kind (our_power d kind k) t ∙ ap (λ (x : ℕ). d - x) (power_sum d kind k t) ∙ e

pub translated_twice : (d n : ℕ) (w : WrittenRow) → 1 < d → legal_row d n w ≡ true → translated d (translated d w) ≡ w
unfolding translated
translated_twice d n w large l = ap (with_power w) (by_changes w.kind changed (λ h. power_same d w.kind _ h ∙ power_same d w.kind w.power h))
  where
    changed : Changes w.kind → our_power d w.kind (our_power d w.kind w.power) ≡ w.power
    changed (inl e) = power_back d w.kind w.power (omega arith) (inl e) (legal_highest d n w l)
    changed (inr (inl e)) =
        let u = legal_unit d n w l e in
        power_m d w.kind (our_power d w.kind w.power) e ∙ ap (inverse_of d) (power_m d w.kind w.power e) ∙ inverse_back d w.power large u.0 u.1
    changed (inr (inr e)) = power_back d w.kind w.power (omega arith) (inr e) (legal_highest d n w l)

-- ---- legal rows are translated to legal rows
pub legal_translated : (d n : ℕ) (w : WrittenRow) → 1 < d → legal_row d n w ≡ true → legal_row d n (translated d w) ≡ true
legal_translated d n w large l = by_changes w.kind
    (λ t. ap (legal_row d n) (translated_undone d n w (omega arith) l t) ∙ legal_written d n (undo d (meant w)) (legal_undo d n (meant w) large (legal_meant d n w l)))
    (λ h. ap (legal_row d n) (translated_same d w h) ∙ l)

pub all_translated : (d n : ℕ) (ws : List WrittenRow) → 1 < d → all_legal_rows d n ws ≡ true → all_legal_rows d n (map (translated d) ws) ≡ true
unfolding all_rows
all_translated d n [] large e = refl
all_translated d n (w ∷ ws) large e =
    let b = both_held (legal_row d n w) (all_legal_rows d n ws) e in
    rw (legal_translated d n w large b.0, all_translated d n ws large b.1)

-- what a partner may write is legal
pub partner_legal : (d n : ℕ) (ws : List WrittenRow) → all_rows (legal_partner d n) ws ≡ true → all_legal_rows d n ws ≡ true
unfolding all_rows legal_partner
partner_legal d n [] e = refl
partner_legal d n (w ∷ ws) e =
    let b = both_held (legal_partner d n w) (all_rows (legal_partner d n) ws) e in
    rw ((both_held (legal_row d n w) (not (eqb w.kind 2)) b.0).0, partner_legal d n ws b.1)
