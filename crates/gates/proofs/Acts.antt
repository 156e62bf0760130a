-- What a row makes of the numbers that it touches, from what its kind does: on one qudit, and on two. Assumes nothing.
use mathlib.Core.Path.{◌≡◌, refl, sym, ap, subst, ◌∙◌}
use mathlib.Core.Bool.{Bool, true, false, cond}
use mathlib.Core.Logic.{◌≢◌}
use Prim.Native.Nat.{ℕ, ◌-◌, ◌<◌}
use native.Mathlib.Omega.{arith}
use Rattle.pauli.specs.Pauli.{Pauli}
use Rattle.pauli.specs.Effects.{effect_f, effect_s, effect_a, effect_m, effect_x, effect_z, effect_c, effect_w}
use Rattle.pauli.specs.Inner.Touched.{Touched, touched, still, OnOne, OnTwo}
use Rattle.pauli.proofs.Still.{Rests, still_rests, f_still, s_still, a_still, m_still, x_still, z_still, c_still, w_still}
use Rattle.gates.specs.Row.{apply}
use Rattle.gates.specs.Written.{WrittenRow, row_of_kind, meant, takes_two, legal_row}
use Rattle.gates.specs.Inner.View.{other_of, Acts, ActsAt}
use Rattle.gates.proofs.Written.{Kind, kind_f, kind_s, kind_a, kind_m, kind_x, kind_z, kind_c, kind_w, legal_sort, legal_first, legal_second_lem, legal_apart}

-- the row of that kind is the row that is meant
pub of_kind_lem : (d : ℕ) (w : WrittenRow) (kind : ℕ) (p : Pauli) → w.kind ≡ kind → apply d (row_of_kind kind (w.first - 1) (w.second - 1) w.power) p ≡ apply d (meant w) p
unfolding meant
of_kind_lem d w kind p e = ap (λ (x : ℕ). apply d (row_of_kind x (w.first - 1) (w.second - 1) w.power) p) (sym e)

-- the second qudit, by the kind
pub other_is : (w : WrittenRow) (kind : ℕ) {b : Bool} → w.kind ≡ kind → takes_two kind ≡ b → cond b (w.second - 1) (w.first - 1) ≡ other_of w
other_is w kind e q = sym (ap (λ (x : ℕ). cond (takes_two x) (w.second - 1) (w.first - 1)) e ∙ ap (λ (b : Bool). cond b (w.second - 1) (w.first - 1)) q)

module _ (d : ℕ) (w : WrittenRow) (kind : ℕ) (e : w.kind ≡ kind) where
  pub acts_one : {old new : Touched} (effect : ℕ → Pauli → Pauli) → takes_two kind ≡ false → ((p : Pauli) → apply d (row_of_kind kind (w.first - 1) (w.second - 1) w.power) p ≡ effect (w.first - 1) p) → OnOne effect old new → Acts d w old new
  acts_one {old} {new} effect one same on = subst (λ (j : ℕ). ActsAt d w (w.first - 1) j old new) (other_is w kind e one)
      (λ p a b seen. sym (of_kind_lem d w kind p e) ∙ same p ∙ (on (w.first - 1) p a seen).replaces)

  pub acts_two : {old new : Touched} (effect : ℕ → ℕ → Pauli → Pauli) → takes_two kind ≡ true → ((p : Pauli) → apply d (row_of_kind kind (w.first - 1) (w.second - 1) w.power) p ≡ effect (w.first - 1) (w.second - 1) p) → w.first - 1 ≢ w.second - 1 → OnTwo effect old new → Acts d w old new
  acts_two {old} {new} effect two same apart on = subst (λ (j : ℕ). ActsAt d w (w.first - 1) j old new) (other_is w kind e two)
      (λ p a b seen. sym (of_kind_lem d w kind p e) ∙ same p ∙ (on (w.first - 1) (w.second - 1) p apart a b seen).replaces)

-- ---- the kinds, each by its number
module _ (d : ℕ) (w : WrittenRow) {old new : Touched} where
  pub acts_f : w.kind ≡ 1 → OnOne (λ i p. effect_f d i w.power p) old new → Acts d w old new
  acts_f e on = acts_one d w 1 e (λ i p. effect_f d i w.power p) refl (λ p. refl) on

  pub acts_s : w.kind ≡ 2 → OnOne (λ i p. effect_s d i w.power p) old new → Acts d w old new
  acts_s e on = acts_one d w 2 e (λ i p. effect_s d i w.power p) refl (λ p. refl) on

  pub acts_m : w.kind ≡ 4 → OnOne (λ i p. effect_m d i w.power p) old new → Acts d w old new
  acts_m e on = acts_one d w 4 e (λ i p. effect_m d i w.power p) refl (λ p. refl) on

  pub acts_x : w.kind ≡ 5 → OnOne (λ i p. effect_x d i w.power p) old new → Acts d w old new
  acts_x e on = acts_one d w 5 e (λ i p. effect_x d i w.power p) refl (λ p. refl) on

  pub acts_z : w.kind ≡ 6 → OnOne (λ i p. effect_z d i w.power p) old new → Acts d w old new
  acts_z e on = acts_one d w 6 e (λ i p. effect_z d i w.power p) refl (λ p. refl) on

  -- on two qudits, which a legal row has apart
  module _ (n : ℕ) (legal : legal_row d n w ≡ true) where
    pub acts_a : w.kind ≡ 3 → OnTwo (λ i j p. effect_a d i j w.power p) old new → Acts d w old new
    acts_a e on = acts_two d w 3 e (λ i j p. effect_a d i j w.power p) refl (λ p. refl) (legal_apart d n w legal (ap takes_two e)) on

    pub acts_c : w.kind ≡ 7 → OnTwo (λ i j p. effect_c d i j w.power p) old new → Acts d w old new
    acts_c e on = acts_two d w 7 e (λ i j p. effect_c d i j w.power p) refl (λ p. refl) (legal_apart d n w legal (ap takes_two e)) on

    pub acts_w : w.kind ≡ 8 → OnTwo (λ i j p. effect_w i j p) old new → Acts d w old new
    acts_w e on = acts_two d w 8 e (λ i j p. effect_w i j p) refl (λ p. refl) (legal_apart d n w legal (ap takes_two e)) on

-- the second qudit of a legal row is one of n
pub legal_other : (d n : ℕ) (w : WrittenRow) → legal_row d n w ≡ true → other_of w < n
legal_other d n w legal = by_kind (takes_two w.kind) refl
  where
    by_kind : (b : Bool) → takes_two w.kind ≡ b → other_of w < n
    by_kind true e = let s = legal_second_lem d n w legal e in subst (λ (j : ℕ). j < n) (other_is w w.kind refl e) (omega arith)
    by_kind false e = let f = legal_first d n w legal in subst (λ (j : ℕ). j < n) (other_is w w.kind refl e) (omega arith)

-- a legal row leaves a Pauli alone whose v and w are 0 at the row's qudits and whose phase is reduced
pub acts_not : (d n : ℕ) (w : WrittenRow) (p : Pauli) → legal_row d n w ≡ true → still d (touched (w.first - 1) (other_of w) p) ≡ true → apply d (meant w) p ≡ p
acts_not d n w p legal e = by_kind (legal_sort d n w legal) refl
  where
    i : ℕ
    i = w.first - 1

    first : Rests d i p
    first = (still_rests d i (other_of w) p e).0

    second : (kind : ℕ) → takes_two kind ≡ true → w.kind ≡ kind → Rests d (w.second - 1) p
    second kind two q = subst (λ (j : ℕ). Rests d j p) (sym (other_is w kind q two)) (still_rests d i (other_of w) p e).1

    by_kind : {kind : ℕ} → Kind kind → w.kind ≡ kind → apply d (meant w) p ≡ p
    by_kind kind_f q = sym (of_kind_lem d w 1 p q) ∙ f_still d i p first w.power
    by_kind kind_s q = sym (of_kind_lem d w 2 p q) ∙ s_still d i p first w.power
    by_kind kind_a q = sym (of_kind_lem d w 3 p q) ∙ a_still d i (w.second - 1) p first (second 3 refl q) w.power
    by_kind kind_m q = sym (of_kind_lem d w 4 p q) ∙ m_still d i p first w.power
    by_kind kind_x q = sym (of_kind_lem d w 5 p q) ∙ x_still d i p first w.power
    by_kind kind_z q = sym (of_kind_lem d w 6 p q) ∙ z_still d i p first w.power
    by_kind kind_c q = sym (of_kind_lem d w 7 p q) ∙ c_still d i (w.second - 1) p first (second 7 refl q) w.power
    by_kind kind_w q = sym (of_kind_lem d w 8 p q) ∙ w_still d i (w.second - 1) p first (second 8 refl q)
