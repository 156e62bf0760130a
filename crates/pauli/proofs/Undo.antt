-- A row of the same kind with the opposite power undoes a row.
use mathlib.Core.Path.{◌≡◌, refl, sym, ◌∙◌, ap}
use mathlib.Core.List.{List, [], ◌∷◌}
use mathlib.Core.Logic.{◌≢◌}
use Prim.Native.Nat.{ℕ, zero, suc, ◌+◌, ◌*◌, ◌-◌, ◌%◌, ◌≤◌, ◌<◌}
use native.Mathlib.Nat.{mod-eq_of_lt}
use native.Mathlib.Omega.{arith}
use lib.ListN.{length, get_or, set}
use lib.Seq.{get_or-set_same, get_or-set_other, set-set}
use Rattle.arith.proofs.Cong.{Cong, cong_intro, cong_refl, cong_add, cong_trans, cong_of_eq, cong_mod, cong_scale}
use Rattle.arith.specs.Residues.{neg}
use Rattle.arith.proofs.Ring.{ring₂, ring₁_by, times, quote}
use Rattle.arith.proofs.Remainders.{idle, neg_neg}
use Rattle.arith.specs.Gcd.{gcd}
use Rattle.arith.specs.Units.{inverse_of}
use Rattle.arith.proofs.Units.{inverse_times, inverse_unit}
use Rattle.pauli.specs.Pauli.{Pauli, InRange}
use Rattle.pauli.proofs.Lists.{set_set_back, stored_first, stored_second, two_back, two_again}
use Rattle.pauli.proofs.Ranges.{in_v, pauli_path, in_w, v_less, w_less}
use Rattle.pauli.specs.Effects.{fourier, effect_f, effect_s, effect_a, effect_m, effect_x, effect_z, effect_c, exchanged, effect_w}
use Rattle.pauli.proofs.Steps.{fourier_step}

-- x and then y added, where x + y is nothing
back : {m h : ℕ} (x y : ℕ) → h < m → Cong m (x + y) 0 → ((h + x) % m + y) % m ≡ h
back {h = h} x y l c = (cong_trans (cong_add (cong_mod (h + x)) (cong_refl y)) (cong_of_eq (omega arith))).same ∙ idle l c

negs : (m x y : ℕ) → 0 < m → Cong m (x + y) 0 → Cong m (neg m x + neg m y) 0
negs m x y p h = ring₁_by m (x ∷ y ∷ []) p (times {z = neg m 1} (search quote) (search quote) (search quote) h) (search quote depth 30) (search quote) tt

-- k times and then m times x, where k + m is a multiple of the modulus
pub turn : (c d k m x : ℕ) → k + m ≡ c * d → Cong d (k * x + m * x) 0
turn c d k m x e = cong_intro 0 (c * x) (omega (arith, ap (λ (t : ℕ). t * x) e))

turn₂ : (d k m x : ℕ) → k + m ≡ d → Cong (2 * d) (2 * (k * x) + 2 * (m * x)) 0
turn₂ d k m x e = cong_trans (cong_of_eq (omega arith)) (cong_scale 2 (turn 1 d k m x (omega arith)))

unit_back : (d k u x : ℕ) → 0 < d → Cong d (k * u) 1 → Cong d (u * (k * x % d)) x
unit_back d k u x p h = ring₁_by d (k ∷ u ∷ x ∷ []) p (times {z = x} (search quote) (search quote) (search quote) h) (search quote depth 30) (search quote) tt

-- ---- F twice turns the entries' signs, so F four times does nothing
f_twice_phase : (d h v w : ℕ) → 0 < d → Cong (2 * d) ((h + neg (2 * d) (2 * (v * w))) % (2 * d) + neg (2 * d) (2 * ((neg d w % d) * v))) h
f_twice_phase d h v w p = ring₂ d (h ∷ v ∷ w ∷ []) p (search quote depth 30) (search quote) tt

abbrev pub signs : ℕ → ℕ → Pauli → Pauli
signs d i p = record { phase = p.phase; v = set p.v i (neg d (get_or p.v i 0) % d); w = set p.w i (neg d (get_or p.w i 0) % d) }

module _ {d n : ℕ} (i : ℕ) (pos : 0 < d) (l : i < n) where
  pub fourier_twice : {p : Pauli} → InRange d n p → fourier d i (fourier d i p) ≡ signs d i p
  fourier_twice {p} r =
      let a = get_or-set_same p.v i (neg d (get_or p.w i 0) % d) 0 (in_v r l) in
      let b = get_or-set_same p.w i (get_or p.v i 0) 0 (in_w r l) in
      pauli_path
      (rw (a, b) ((f_twice_phase d p.phase (get_or p.v i 0) (get_or p.w i 0) pos).same ∙ mod-eq_of_lt r.phase_below))
      (rw b (set-set p.v i _ _))
      (rw a (set-set p.w i _ _))

  signs_twice : {p : Pauli} → InRange d n p → signs d i (signs d i p) ≡ p
  signs_twice {p} r = pauli_path
      refl
      (set_set_back p.v i _ (entry p.v (in_v r l) (v_less r i)))
      (set_set_back p.w i _ (entry p.w (in_w r l) (w_less r i)))
    where
      entry : (xs : List ℕ) → i < length xs → get_or xs i 0 < d → neg d (get_or (set xs i (neg d (get_or xs i 0) % d)) i 0) % d ≡ get_or xs i 0
      entry xs k b = rw (get_or-set_same xs i (neg d (get_or xs i 0) % d) 0 k) (neg_neg d (get_or xs i 0) b)

  fourier_four : {p : Pauli} → InRange d n p → fourier d i (fourier d i (fourier d i (fourier d i p))) ≡ p
  fourier_four {p} r =
      let s = fourier_step i pos l in
      fourier_twice (s.range (s.range r)) ∙ ap (signs d i) (fourier_twice r) ∙ signs_twice r

  pub undone_f : {p : Pauli} (k : ℕ) → 1 ≤ k → k ≤ 3 → InRange d n p → effect_f d i (4 - k) (effect_f d i k p) ≡ p
  undone_f zero low high r = absurd (omega arith)
  undone_f (suc zero) low high r = fourier_four r
  undone_f (suc (suc zero)) low high r = fourier_four r
  undone_f (suc (suc (suc zero))) low high r = fourier_four r
  undone_f (suc (suc (suc (suc k)))) low high r = absurd (omega arith)

-- ---- the other kinds
-- an entry of a list that was set, with the next number put at the same place
entry_back : (xs : List ℕ) (i a : ℕ) (f : ℕ → ℕ) → i < length xs → f a ≡ get_or xs i 0 → set (set xs i a) i (f (get_or (set xs i a) i 0)) ≡ xs
entry_back xs i a f l e = set_set_back xs i a (ap f (get_or-set_same xs i a 0 l) ∙ e)

module _ {d n : ℕ} {p : Pauli} (i k : ℕ) (l : i < n) (r : InRange d n p) where
  pub undone_s : k ≤ 2 * d → effect_s d i (2 * d - k) (effect_s d i k p) ≡ p
  undone_s h = pauli_path
      (back _ _ r.phase_below (turn 1 (2 * d) k (2 * d - k) _ (omega arith)))
      refl
      (entry_back p.w i _ (λ x. (x + (2 * d - k) * get_or p.v i 0) % d) (in_w r l)
      (back _ _ (w_less r i) (turn 2 d k (2 * d - k) (get_or p.v i 0) (omega arith))))

  pub undone_m : 1 < d → gcd k d ≡ 1 → effect_m d i (inverse_of d k) (effect_m d i k p) ≡ p
  undone_m large unit =
      let u : ℕ = inverse_of d k in
      pauli_path
      refl
      (entry_back p.v i _ (λ x. u * x % d) (in_v r l)
      ((unit_back d k u (get_or p.v i 0) (omega arith) (inverse_times d k large unit)).same ∙ mod-eq_of_lt (v_less r i)))
      (entry_back p.w i _ (λ x. inverse_of d u * x % d) (in_w r l)
      ((unit_back d u (inverse_of d u) (get_or p.w i 0) (omega arith) (inverse_times d u large (inverse_unit d k large unit))).same ∙ mod-eq_of_lt (w_less r i)))

  pub undone_x : 0 < d → k ≤ d → effect_x d i (d - k) (effect_x d i k p) ≡ p
  undone_x pos h = pauli_path (back _ _ r.phase_below (negs (2 * d) _ _ (omega arith) (turn₂ d k (d - k) (get_or p.w i 0) (omega arith)))) refl refl

  pub undone_z : k ≤ d → effect_z d i (d - k) (effect_z d i k p) ≡ p
  undone_z h = pauli_path (back _ _ r.phase_below (turn₂ d k (d - k) (get_or p.v i 0) (omega arith))) refl refl

pub undone_a : {d n : ℕ} {p : Pauli} (i j k : ℕ) → 0 < d → i < n → j < n → i ≢ j → k ≤ d → InRange d n p → effect_a d i j (d - k) (effect_a d i j k p) ≡ p
undone_a {d} {p = p} i j k pos li lj apart h r = pauli_path
    refl
    (rw (get_or-set_other p.v j i ((get_or p.v j 0 + k * get_or p.v i 0) % d) 0 apart)
    (entry_back p.v j _ (λ x. (x + (d - k) * get_or p.v i 0) % d) (in_v r lj)
    (back _ _ (v_less r j) (turn 1 d k (d - k) (get_or p.v i 0) (omega arith)))))
    (rw (get_or-set_other p.w i j ((get_or p.w i 0 + neg d (k * get_or p.w j 0)) % d) 0 (λ e. apart (sym e)))
    (entry_back p.w i _ (λ x. (x + neg d ((d - k) * get_or p.w j 0)) % d) (in_w r li)
    (back _ _ (w_less r i) (negs d _ _ pos (turn 1 d k (d - k) (get_or p.w j 0) (omega arith))))))

-- two entries of a list that were set, with the next numbers put at the same places
entries_back : (xs : List ℕ) {i j : ℕ} (a b : ℕ) {x y : ℕ} → i ≢ j → x ≡ get_or xs i 0 → y ≡ get_or xs j 0 → set (set (set (set xs i a) j b) i x) j y ≡ xs
entries_back xs {i} {j} a b {x} {y} apart e f = two_again xs a b x y apart ∙ two_back xs i j e f

pub undone_c : {d n : ℕ} {p : Pauli} (i j k : ℕ) → i < n → j < n → i ≢ j → k ≤ d → InRange d n p → effect_c d i j (d - k) (effect_c d i j k p) ≡ p
undone_c {d} {p = p} i j k li lj apart h r =
    let x = get_or p.v i 0 in
    let y = get_or p.v j 0 in
    pauli_path
    (back _ _ r.phase_below (turn₂ d k (d - k) (x * y) (omega arith)))
    refl
    (entries_back p.w _ _ apart
    (ap (λ (t : ℕ). (t + (d - k) * y) % d) (stored_first p.w _ _ apart (in_w r li)) ∙ back _ _ (w_less r i) (turn 1 d k (d - k) y (omega arith)))
    (ap (λ (t : ℕ). (t + (d - k) * x) % d) (stored_second p.w _ _ apart (in_w r lj)) ∙ back _ _ (w_less r j) (turn 1 d k (d - k) x (omega arith))))

pub undone_w : {d n : ℕ} {p : Pauli} (i j : ℕ) → i < n → j < n → i ≢ j → InRange d n p → effect_w i j (effect_w i j p) ≡ p
undone_w {p = p} i j li lj apart r = pauli_path refl (twice p.v (in_v r li) (in_v r lj)) (twice p.w (in_w r li) (in_w r lj))
  where
    twice : (xs : List ℕ) → i < length xs → j < length xs → exchanged i j (exchanged i j xs) ≡ xs
    twice xs h k = entries_back xs _ _ apart (stored_second xs _ _ apart k) (stored_first xs _ _ apart h)
