-- Maps of Paulis that keep products and phases: they keep powers, commutation numbers and parities, and are injective.
use mathlib.Core.Path.{◌≡◌, refl, sym, ◌∙◌, ap}
use mathlib.Core.List.{[], ◌∷◌}
use Prim.Native.Nat.{ℕ, zero, suc, ◌+◌, ◌*◌, ◌-◌, ◌%◌, ◌<◌}
use native.Mathlib.Nat.{mod-lt, mod-eq_of_lt}
use native.Mathlib.Omega.{arith}
use lib.Seq.{ext_get_or}
use Rattle.arith.proofs.Cong.{Cong, cong_eq, cong_mod}
use Rattle.arith.specs.Residues.{neg}
use Rattle.arith.proofs.Ring.{ring₁_by, times, quote}
use Rattle.pauli.specs.Pauli.{Pauli, InRange, dot, product, phase_only, power, comm, parity, unit_x, unit_z}
use Rattle.pauli.proofs.Ranges.{pauli_path, product_range, phase_only_range, power_range, phase_range, v_less, w_less}
use Rattle.pauli.proofs.Group.{shifted, phase_left, exchange_shift, comm_below, power_full, full_parity, shift_cong, shift_cancel}
use Rattle.pauli.proofs.Units.{unit_x_range, unit_z_range, comm_unit_x, comm_unit_z}

pub record Hom (d n : ℕ) (f : Pauli → Pauli) : Type 0 where
  pub range : (p : Pauli) → InRange d n p → InRange d n (f p)
  pub keeps : (p q : Pauli) → InRange d n p → InRange d n q → f (product d p q) ≡ product d (f p) (f q)
  pub phases : (h : ℕ) → h < 2 * d → f (phase_only n h) ≡ phase_only n h

pub hom_id : (d n : ℕ) → Hom d n (λ p. p)
hom_id d n = record { range = λ p a. a; keeps = λ p q a b. refl; phases = λ h l. refl }

-- f, then g
pub hom_then : {d n : ℕ} {f g : Pauli → Pauli} → Hom d n f → Hom d n g → Hom d n (λ p. g (f p))
hom_then {d} {n} {f} {g} a b = record {
  range = λ p r. b.range (f p) (a.range p r);
  keeps = λ p q r s. ap g (a.keeps p q r s) ∙ b.keeps (f p) (f q) (a.range p r) (a.range q s);
  phases = λ h l. ap g (a.phases h l) ∙ b.phases h l;
}

pub hom_power : {d n : ℕ} {f : Pauli → Pauli} → 0 < d → Hom d n f → (p : Pauli) → InRange d n p → (k : ℕ) → f (power d n p k) ≡ power d n (f p) k
hom_power pos m p a zero = m.phases 0 (omega arith)
hom_power {d} {n} {f} pos m p a (suc k) = m.keeps (power d n p k) p (power_range k pos a) a ∙ ap (λ (x : Pauli). product d x (f p)) (hom_power pos m p a k)

halves : (d x y : ℕ) → x < d → y < d → Cong (2 * d) (2 * x) (2 * y) → x ≡ y
halves d x y l k e = let h : 2 * x ≡ 2 * y = cong_eq e (omega arith) (omega arith) in omega arith

module _ {d n : ℕ} {f : Pauli → Pauli} (pos : 0 < d) (m : Hom d n f) where
  -- a shift of phase is kept
  pub hom_shift : (h : ℕ) (p : Pauli) → InRange d n p → f (shifted d h p) ≡ shifted d h (f p)
  hom_shift h p a =
      ap f (sym (shift_cong d p (cong_mod h)) ∙ sym (phase_left d n (h % (2 * d)) a))
      ∙ m.keeps (phase_only n (h % (2 * d))) p (phase_only_range n (h % (2 * d)) pos c) a
      ∙ ap (λ (x : Pauli). product d x (f p)) (m.phases (h % (2 * d)) c)
      ∙ phase_left d n (h % (2 * d)) (m.range p a)
      ∙ shift_cong d (f p) (cong_mod h)
    where
      c : h % (2 * d) < 2 * d
      c = mod-lt h (omega arith)

  pub hom_comm : (p q : Pauli) → InRange d n p → InRange d n q → comm d (f p) (f q) ≡ comm d p q
  hom_comm p q a b = halves d (comm d (f p) (f q)) (comm d p q) (comm_below d (f p) (f q) pos) (comm_below d p q pos)
      (shift_cancel d (2 * comm d (f p) (f q)) (2 * comm d p q) (product d (f q) (f p))
      (sym (exchange_shift d n pos (m.range p a) (m.range q b))
      ∙ sym (m.keeps p q a b)
      ∙ ap f (exchange_shift d n pos a b)
      ∙ hom_shift (2 * comm d p q) (product d q p) (product_range pos b a)
      ∙ ap (shifted d (2 * comm d p q)) (m.keeps q p b a)))

  pub hom_parity : (p : Pauli) → InRange d n p → parity d (f p) ≡ parity d p
  hom_parity p a = full_parity d _ _ pos (record {
    same = ap (λ (x : Pauli). x.phase)
        (sym (power_full d n pos (m.range p a)) ∙ sym (hom_power pos m p a d) ∙ ap f (power_full d n pos a)
        ∙ m.phases (d * (p.phase + (d - 1) * dot p.w p.v) % (2 * d)) (mod-lt (d * (p.phase + (d - 1) * dot p.w p.v)) (omega arith)));
  })

-- ---- injectivity
neg_injective : (d x y : ℕ) → 0 < d → Cong d (neg d x) (neg d y) → Cong d x y
neg_injective d x y pos h = ring₁_by d (x ∷ y ∷ []) pos (times {z = neg d 1} (search quote) (search quote) (search quote) h) (search quote) (search quote) tt

-- a Pauli without its phase
abbrev pub bare : Pauli → Pauli
bare p = record { phase = 0; v = p.v; w = p.w }

bare_range : {d n : ℕ} {p : Pauli} → 0 < d → InRange d n p → InRange d n (bare p)
bare_range pos a = phase_range a (omega arith)

bare_phase : {d n : ℕ} {p : Pauli} → InRange d n p → p ≡ shifted d p.phase (bare p)
bare_phase {d} {n} {p} a = pauli_path (sym (mod-eq_of_lt a.phase_below) ∙ ap (λ (x : ℕ). x % (2 * d)) (omega arith)) refl refl

module _ {d n : ℕ} {f : Pauli → Pauli} (one : 1 < d) (m : Hom d n f) where
  -- Paulis whose images have the same entries commute alike with everything, so they have the same entries
  pub hom_entries : (p q : Pauli) → InRange d n p → InRange d n q → bare (f p) ≡ bare (f q) → bare p ≡ bare q
  hom_entries p q a b e = pauli_path refl
      (ext_get_or 0 p.v q.v (a.v_length ∙ sym b.v_length) (λ i l.
      let k : i < n = rw a.v_length at l in
      cong_eq (neg_injective d _ _ pos (record { same = sym (comm_unit_z d n i p pos k) ∙ alike (unit_z n i) (unit_z_range d n i one) ∙ comm_unit_z d n i q pos k }))
      (v_less a i) (v_less b i)))
      (ext_get_or 0 p.w q.w (a.w_length ∙ sym b.w_length) (λ i l.
      let k : i < n = rw a.w_length at l in
      cong_eq (record { same = sym (comm_unit_x d n i p pos k) ∙ alike (unit_x n i) (unit_x_range d n i one) ∙ comm_unit_x d n i q pos k })
      (w_less a i) (w_less b i)))
    where
      pos : 0 < d
      pos = omega arith

      alike : (r : Pauli) → InRange d n r → comm d p r ≡ comm d q r
      alike r c = sym (hom_comm {n = n} {f = f} pos m p r a c) ∙ ap (λ (x : Pauli). comm d x (f r)) e ∙ hom_comm {n = n} {f = f} pos m q r b c

  pub hom_bare : (p : Pauli) → InRange d n p → f p ≡ shifted d p.phase (f (bare p))
  hom_bare p a = ap f (bare_phase a) ∙ hom_shift {n = n} {f = f} (omega arith) m p.phase (bare p) (bare_range (omega arith) a)

  pub hom_injective : (p q : Pauli) → InRange d n p → InRange d n q → f p ≡ f q → p ≡ q
  hom_injective p q a b e =
      let s : bare p ≡ bare q = hom_entries p q a b (ap bare e) in
      pauli_path
      (cong_eq (shift_cancel d p.phase q.phase (f (bare p)) (sym (hom_bare p a) ∙ e ∙ hom_bare q b ∙ ap (λ (x : Pauli). shifted d q.phase (f x)) (sym s))) a.phase_below b.phase_below)
      (ap (λ (x : Pauli). x.v) s)
      (ap (λ (x : Pauli). x.w) s)
