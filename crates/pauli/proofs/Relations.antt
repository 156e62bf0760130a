-- C and W by the other kinds, as document 002 has them, (12) and (9), for every d and n. In 002 X lowers a level, so that its A of power k is A of power d − k here.
use mathlib.Core.Path.{◌≡◌, refl, sym, ◌∙◌, ap}
use mathlib.Core.List.{List, [], ◌∷◌}
use mathlib.Core.Logic.{◌≢◌}
use Prim.Native.Nat.{ℕ, ◌+◌, ◌*◌, ◌-◌, ◌%◌, ◌≤◌, ◌<◌}
use native.Mathlib.Nat.{mod-eq_of_lt}
use native.Mathlib.Omega.{arith}
use lib.ListN.{length, get_or, set}
use lib.Seq.{set-set, set_comm, get_or-set_same, get_or-set_other}
use Rattle.arith.specs.Residues.{neg}
use Rattle.arith.proofs.Cong.{Cong}
use Rattle.arith.proofs.Ring.{ring₂, ring₁_by, times, ◌also◌, quote}
use Rattle.pauli.specs.Pauli.{Pauli, InRange}
use Rattle.pauli.specs.Effects.{fourier, effect_f, effect_a, effect_c, effect_w}
use Rattle.pauli.proofs.Lists.{set_back, stored_first, stored_second}
use Rattle.pauli.proofs.Ranges.{pauli_path, in_v, in_w, v_less, w_less}
use Rattle.pauli.proofs.Steps.{c_step}
use Rattle.pauli.proofs.Undo.{turn, fourier_twice, undone_f}

-- ---- (12): F on the second qudit turns C into A
c_phase : (d k δ x y u : ℕ) → 0 < d → Cong (2 * d) ((δ + 2 * (k * (x * y))) % (2 * d) + neg (2 * d) (2 * (y * ((u + k * x) % d)))) (δ + neg (2 * d) (2 * (y * u)))
c_phase d k δ x y u p = ring₂ d (k ∷ δ ∷ x ∷ y ∷ u ∷ []) p (search quote depth 30) (search quote depth 30) tt

-- k + m is nothing
c_v : (d k m x u : ℕ) → 0 < d → Cong d (k * x + m * x) 0 → Cong d (neg d ((u + k * x) % d)) (neg d u % d + m * x)
c_v d k m x u p h = ring₁_by d (k ∷ m ∷ x ∷ u ∷ []) p (times {z = neg d 1} (search quote) (search quote) (search quote depth 30) h) (search quote depth 30) (search quote depth 30) tt

c_w : (d k m y z : ℕ) → 0 < d → Cong d (k * y + m * y) 0 → Cong d (z + k * y) (z + neg d (m * y))
c_w d k m y z p h = ring₁_by d (k ∷ m ∷ y ∷ z ∷ []) p (times {z = 1} (search quote) (search quote) (search quote depth 30) h) (search quote depth 30) (search quote depth 30) tt

module _ {d n : ℕ} {p : Pauli} (i j k : ℕ) (pos : 0 < d) (li : i < n) (lj : j < n) (apart : i ≢ j) (high : k ≤ d) (r : InRange d n p) where
  abbrev x : ℕ
  x = get_or p.v i 0

  abbrev y : ℕ
  y = get_or p.v j 0

  abbrev z : ℕ
  z = get_or p.w i 0

  abbrev u : ℕ
  u = get_or p.w j 0

  abbrev m : ℕ
  m = d - k

  around : fourier d j (effect_c d i j k p) ≡ effect_a d i j (d - k) (fourier d j p)
  around = pauli_path
      (ap (λ (t : ℕ). ((p.phase + 2 * (k * (x * y))) % (2 * d) + neg (2 * d) (2 * (y * t))) % (2 * d)) second ∙ (c_phase d k p.phase x y u pos).same)
      (ap (λ (t : ℕ). set p.v j (neg d t % d)) second ∙ ap (set p.v j) (c_v d k m x u pos (turn 1 d k m x (omega arith))).same ∙ sym v_after)
      (set-set (set p.w i _) j _ y ∙ set_comm p.w i j _ y apart ∙ ap (set (set p.w j y) i) (c_w d k m y z pos (turn 1 d k m y (omega arith))).same ∙ sym w_after)
    where
      second : get_or (set (set p.w i ((z + k * y) % d)) j ((u + k * x) % d)) j 0 ≡ (u + k * x) % d
      second = stored_second p.w _ _ apart (in_w r lj)

      v_after : (effect_a d i j m (fourier d j p)).v ≡ set p.v j ((neg d u % d + m * x) % d)
      v_after = rw (get_or-set_same p.v j (neg d u % d) 0 (in_v r lj), get_or-set_other p.v j i (neg d u % d) 0 apart) (set-set p.v j _ _)

      w_after : (effect_a d i j m (fourier d j p)).w ≡ set (set p.w j y) i ((z + neg d (m * y)) % d)
      w_after = rw (get_or-set_same p.w j y 0 (in_w r lj), get_or-set_other p.w j i y 0 apart) refl

  pub c_by_a : effect_f d j 3 (effect_a d i j (d - k) (effect_f d j 1 p)) ≡ effect_c d i j k p
  c_by_a = ap (effect_f d j 3) (sym around) ∙ undone_f j pos lj 1 (omega arith) (omega arith) ((c_step i j k pos li lj apart).range r)

-- ---- (9): W by A rows
-- two entries a and b of a list, of which one becomes a number made of both
module _ (xs : List ℕ) {i j : ℕ} (a b : ℕ) (apart : i ≢ j) (hi : i < length xs) (hj : j < length xs) (f : ℕ → ℕ → ℕ) where
  abbrev both : List ℕ
  both = set (set xs i a) j b

  change_first : set both i (f (get_or both i 0) (get_or both j 0)) ≡ set (set xs i (f a b)) j b
  change_first = rw (stored_first xs a b apart hi, stored_second xs a b apart hj)
      (set_comm (set xs i a) j i b (f a b) (λ e. apart (sym e)) ∙ ap (λ (l : List ℕ). set l j b) (set-set xs i a (f a b)))

  change_second : set both j (f (get_or both i 0) (get_or both j 0)) ≡ set (set xs i a) j (f a b)
  change_second = rw (stored_first xs a b apart hi, stored_second xs a b apart hj) (set-set (set xs i a) j b (f a b))

-- the entries that the rows make, where 1 + m is nothing
module _ (d m s t : ℕ) (p : 0 < d) (hs : Cong d (1 * s + m * s) 0) (ht : Cong d (1 * t + m * t) 0) where
  plus_first : Cong d (neg d s % d + 1 * ((t + m * (neg d s % d)) % d)) t
  plus_first = ring₁_by d (m ∷ s ∷ t ∷ []) p (times {z = neg d 1} (search quote) (search quote) (search quote depth 30) hs) (search quote depth 30) (search quote depth 30) tt

  plus_second : Cong d ((t + m * (neg d s % d)) % d + m * t) s
  plus_second = ring₁_by d (m ∷ s ∷ t ∷ []) p
      (times {z = neg d 1} (search quote) (search quote) (search quote depth 30) hs also times {z = 1} (search quote) (search quote) (search quote depth 30) ht)
      (search quote depth 30) (search quote depth 30) tt

  minus_second : Cong d (t + neg d (1 * ((neg d s % d + neg d (m * t)) % d))) s
  minus_second = ring₁_by d (m ∷ s ∷ t ∷ []) p (times {z = 1} (search quote) (search quote) (search quote depth 30) ht) (search quote depth 30) (search quote depth 30) tt

  minus_first : Cong d ((neg d s % d + neg d (m * t)) % d + neg d (m * s)) t
  minus_first = ring₁_by d (m ∷ s ∷ t ∷ []) p
      (times {z = neg d 1} (search quote) (search quote) (search quote depth 30) hs also times {z = neg d 1} (search quote) (search quote) (search quote depth 30) ht)
      (search quote depth 30) (search quote depth 30) tt

-- what A of power k from i to j makes of v, and of w
abbrev on_v : ℕ → ℕ → ℕ → ℕ → List ℕ → List ℕ
on_v d i j k l = set l j ((get_or l j 0 + k * get_or l i 0) % d)

abbrev on_w : ℕ → ℕ → ℕ → ℕ → List ℕ → List ℕ
on_w d i j k l = set l i ((get_or l i 0 + neg d (k * get_or l j 0)) % d)

module _ {d n : ℕ} {p : Pauli} (i j : ℕ) (pos : 0 < d) (li : i < n) (lj : j < n) (apart : i ≢ j) (r : InRange d n p) where
  abbrev less : ℕ
  less = d - 1

  nothing : (s : ℕ) → Cong d (1 * s + less * s) 0
  nothing s = turn 1 d 1 less s (omega arith)

  -- the second entry is there already
  there : (l : List ℕ) (a : ℕ) → set l i a ≡ set (set l i a) j (get_or l j 0)
  there l a = sym (set_back (set l i a) j (sym (get_or-set_other l i j a 0 (λ e. apart (sym e)))))

  v_exchanged : on_v d i j less (on_v d j i 1 (on_v d i j less (set p.v i (neg d (get_or p.v i 0) % d)))) ≡ set (set p.v i (get_or p.v j 0)) j (get_or p.v i 0)
  v_exchanged =
      let l = p.v in
      let s = get_or l i 0 in
      let t = get_or l j 0 in
      let a = neg d s % d in
      let b = (t + less * a) % d in
      let hi = in_v r li in
      let hj = in_v r lj in
      let e = (plus_first d less s t pos (nothing s) (nothing t)).same ∙ mod-eq_of_lt (v_less r j) in
      ap (λ (x : List ℕ). on_v d i j less (on_v d j i 1 (on_v d i j less x))) (there l a)
      ∙ ap (λ (x : List ℕ). on_v d i j less (on_v d j i 1 x)) (change_second l a t apart hi hj (λ x y. (y + less * x) % d))
      ∙ ap (on_v d i j less) (change_first l a b apart hi hj (λ x y. (x + 1 * y) % d) ∙ ap (λ (x : ℕ). set (set l i x) j b) e)
      ∙ change_second l t b apart hi hj (λ x y. (y + less * x) % d)
      ∙ ap (set (set l i t) j) ((plus_second d less s t pos (nothing s) (nothing t)).same ∙ mod-eq_of_lt (v_less r i))

  w_exchanged : on_w d i j less (on_w d j i 1 (on_w d i j less (set p.w i (neg d (get_or p.w i 0) % d)))) ≡ set (set p.w i (get_or p.w j 0)) j (get_or p.w i 0)
  w_exchanged =
      let l = p.w in
      let s = get_or l i 0 in
      let t = get_or l j 0 in
      let a = neg d s % d in
      let b = (a + neg d (less * t)) % d in
      let hi = in_w r li in
      let hj = in_w r lj in
      let e = (minus_second d less s t pos (nothing s) (nothing t)).same ∙ mod-eq_of_lt (w_less r i) in
      ap (λ (x : List ℕ). on_w d i j less (on_w d j i 1 (on_w d i j less x))) (there l a)
      ∙ ap (λ (x : List ℕ). on_w d i j less (on_w d j i 1 x)) (change_first l a t apart hi hj (λ x y. (x + neg d (less * y)) % d))
      ∙ ap (on_w d i j less) (change_second l b t apart hi hj (λ x y. (y + neg d (1 * x)) % d) ∙ ap (set (set l i b) j) e)
      ∙ change_first l b s apart hi hj (λ x y. (x + neg d (less * y)) % d)
      ∙ ap (λ (x : ℕ). set (set l i x) j s) ((minus_first d less s t pos (nothing s) (nothing t)).same ∙ mod-eq_of_lt (w_less r j))

  pub w_by_a : effect_a d i j (d - 1) (effect_a d j i 1 (effect_a d i j (d - 1) (effect_f d i 2 p))) ≡ effect_w i j p
  w_by_a = ap (λ (q : Pauli). effect_a d i j (d - 1) (effect_a d j i 1 (effect_a d i j (d - 1) q))) (fourier_twice i pos li r) ∙ pauli_path refl v_exchanged w_exchanged
