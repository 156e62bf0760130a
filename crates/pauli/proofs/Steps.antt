-- The effect of each kind of row keeps products and phases: each is a step, and the algebra at its entries is put to the solver.
-- In the algebra v, w are the entries of the first Pauli and s, t those of the second; x and y are the dots before and after.
use mathlib.Core.Path.{◌≡◌, refl, sym, ap, ap₂}
use mathlib.Core.List.{[], ◌∷◌}
use mathlib.Core.Logic.{◌≢◌}
use Prim.Native.Nat.{ℕ, ◌+◌, ◌*◌, ◌%◌, ◌<◌}
use native.Mathlib.Nat.{mod-lt}
use native.Mathlib.Omega.{arith}
use lib.ListN.{get_or, set}
use Rattle.arith.proofs.Cong.{Cong, cong_refl, cong_of_eq}
use Rattle.arith.specs.Residues.{neg}
use Rattle.arith.proofs.Ring.{ring₁, ring₂, ring₁_by, times, ◌also◌, quote}
use Rattle.arith.proofs.Remainders.{idle}
use Rattle.arith.specs.Gcd.{gcd}
use Rattle.arith.specs.Units.{inverse_of}
use Rattle.arith.proofs.Units.{inverse_times}
use Rattle.pauli.specs.Pauli.{dot, plus}
use Rattle.pauli.proofs.Sums.{get_d_plus, plus_set}
use Rattle.pauli.proofs.Dots.{dot_set_l, dot_set, dot_set_apart, dot_set_two, dot_exchanged}
use Rattle.pauli.proofs.Ranges.{set_w_range, phase_range, set_v_range, v_less, w_less, in_w, in_v, phase_only_range}
use Rattle.pauli.specs.Effects.{fourier, effect_s, effect_a, effect_m, effect_x, effect_z, effect_c, effect_w}
use Rattle.pauli.proofs.Frame.{fourier_frame, phase_zero, frame_s, frame_a, frame_m, frame_x, frame_z, frame_c, frame_w}
use Rattle.pauli.proofs.Step.{Step}

-- ---- F
f_dot : (d x y v w s t : ℕ) → 0 < d → y + w * s ≡ x + v * (neg d t % d) → Cong d y (x + neg d (w * s + v * t))
f_dot d x y v w s t p e = ring₁_by d (x ∷ y ∷ v ∷ w ∷ s ∷ t ∷ []) p
    (times {z = 1} (search quote) (search quote) (search quote depth 30) (cong_of_eq e)) (search quote depth 30) (search quote depth 30) tt

f_quadratic : (d v w s t : ℕ) → 0 < d
    → Cong (2 * d) (neg (2 * d) (2 * (((v + s) % d) * ((w + t) % d)))) (neg (2 * d) (2 * (v * w)) + neg (2 * d) (2 * (s * t)) + 2 * neg d (w * s + v * t))
f_quadratic d v w s t p = ring₂ d (v ∷ w ∷ s ∷ t ∷ []) p (search quote depth 30) (search quote depth 30) tt

f_entry : (d w t : ℕ) → 0 < d → Cong d (neg d ((w + t) % d)) (neg d w % d + neg d t % d)
f_entry d w t p = ring₁ d (w ∷ t ∷ []) p (search quote depth 30) (search quote depth 30) tt

module _ {d n : ℕ} (i : ℕ) (pos : 0 < d) (l : i < n) where
  pub fourier_step : Step d n (fourier d i)
  fourier_step = record {
    shift = λ p. neg (2 * d) (2 * (get_or p.v i 0 * get_or p.w i 0));
    twist = λ p q. neg d (get_or p.w i 0 * get_or q.v i 0 + get_or p.v i 0 * get_or q.w i 0);
    range = λ {p} r. set_w_range (set_v_range (phase_range r (mod-lt _ (omega arith))) i (mod-lt (neg d (get_or p.w i 0)) pos)) i (v_less r i);
    phase_by = λ r. refl;
    dot_by = λ {p} {q} a b.
        f_dot d (dot p.w q.v) _ (get_or p.v i 0) (get_or p.w i 0) (get_or q.v i 0) (get_or q.w i 0) pos
        (dot_set p.w q.v i (get_or p.v i 0) (neg d (get_or q.w i 0) % d) (in_w a l) (in_v b l));
    quadratic = λ {p} {q} a b.
        rw (get_d_plus d p.v q.v i (in_v a l) (in_v b l), get_d_plus d p.w q.w i (in_w a l) (in_w b l))
        (f_quadratic d (get_or p.v i 0) (get_or p.w i 0) (get_or q.v i 0) (get_or q.w i 0) pos);
    v_plus = λ {p} {q} a b.
        rw (get_d_plus d p.w q.w i (in_w a l) (in_w b l), plus_set)
        (ap (λ (x : ℕ). set (plus d p.v q.v) i x) (f_entry d (get_or p.w i 0) (get_or q.w i 0) pos).same);
    w_plus = λ {p} {q} a b. rw (get_d_plus d p.v q.v i (in_v a l) (in_v b l), plus_set) refl;
    phases = λ h k. fourier_frame i pos (phase_only_range n h pos k) (phase_zero n h i);
  }

-- ---- S
s_dot : (d k x y v w s : ℕ) → 0 < d → y + w * s ≡ x + ((w + k * v) % d) * s → Cong d y (x + k * (v * s))
s_dot d k x y v w s p e = ring₁_by d (k ∷ x ∷ y ∷ v ∷ w ∷ s ∷ []) p
    (times {z = 1} (search quote) (search quote) (search quote depth 30) (cong_of_eq e)) (search quote depth 30) (search quote depth 30) tt

s_quadratic : (d k v s : ℕ) → 0 < d → Cong (2 * d) (k * (((v + s) % d) * ((v + s) % d + d))) (k * (v * (v + d)) + k * (s * (s + d)) + 2 * (k * (v * s)))
s_quadratic d k v s p = ring₂ d (k ∷ v ∷ s ∷ []) p (search quote depth 30) (search quote depth 30) tt

-- an entry to which k times another is added, of S, A and C
add_entry : (d k v w s t : ℕ) → 0 < d → Cong d ((w + t) % d + k * ((v + s) % d)) ((w + k * v) % d + (t + k * s) % d)
add_entry d k v w s t p = ring₁ d (k ∷ v ∷ w ∷ s ∷ t ∷ []) p (search quote depth 30) (search quote depth 30) tt

module _ {d n : ℕ} (i k : ℕ) (pos : 0 < d) (l : i < n) where
  pub s_step : Step d n (effect_s d i k)
  s_step = record {
    shift = λ p. k * (get_or p.v i 0 * (get_or p.v i 0 + d));
    twist = λ p q. k * (get_or p.v i 0 * get_or q.v i 0);
    range = λ r. set_w_range (phase_range r (mod-lt _ (omega arith))) i (mod-lt _ pos);
    phase_by = λ r. refl;
    dot_by = λ {p} {q} a b.
        s_dot d k (dot p.w q.v) _ (get_or p.v i 0) (get_or p.w i 0) (get_or q.v i 0) pos
        (dot_set_l p.w q.v i ((get_or p.w i 0 + k * get_or p.v i 0) % d) (in_w a l));
    quadratic = λ {p} {q} a b. rw (get_d_plus d p.v q.v i (in_v a l) (in_v b l)) (s_quadratic d k (get_or p.v i 0) (get_or q.v i 0) pos);
    v_plus = λ a b. refl;
    w_plus = λ {p} {q} a b.
        rw (get_d_plus d p.v q.v i (in_v a l) (in_v b l), get_d_plus d p.w q.w i (in_w a l) (in_w b l), plus_set)
        (ap (λ (x : ℕ). set (plus d p.w q.w) i x) (add_entry d k (get_or p.v i 0) (get_or p.w i 0) (get_or q.v i 0) (get_or q.w i 0) pos).same);
    phases = λ h m. frame_s i k pos (phase_only_range n h pos m) (phase_zero n h i);
  }

-- ---- A
a_dot : (d k x y wi wj si sj : ℕ) → 0 < d → y + (wi * si + wj * sj) ≡ x + (((wi + neg d (k * wj)) % d) * si + wj * ((sj + k * si) % d)) → Cong d y (x + 0)
a_dot d k x y wi wj si sj p e = ring₁_by d (k ∷ x ∷ y ∷ wi ∷ wj ∷ si ∷ sj ∷ []) p
    (times {z = 1} (search quote) (search quote) (search quote depth 30) (cong_of_eq e)) (search quote depth 30) (search quote depth 30) tt

a_entry : (d k wi wj ti tj : ℕ) → 0 < d → Cong d ((wi + ti) % d + neg d (k * ((wj + tj) % d))) ((wi + neg d (k * wj)) % d + (ti + neg d (k * tj)) % d)
a_entry d k wi wj ti tj p = ring₁ d (k ∷ wi ∷ wj ∷ ti ∷ tj ∷ []) p (search quote depth 30) (search quote depth 30) tt

module _ {d n : ℕ} (i j k : ℕ) (pos : 0 < d) (li : i < n) (lj : j < n) (apart : i ≢ j) where
  pub a_step : Step d n (effect_a d i j k)
  a_step = record {
    shift = λ p. 0;
    twist = λ p q. 0;
    range = λ r. set_w_range (set_v_range r j (mod-lt _ pos)) i (mod-lt _ pos);
    phase_by = λ r. sym (idle r.phase_below (cong_refl 0));
    dot_by = λ {p} {q} a b.
        a_dot d k (dot p.w q.v) _ (get_or p.w i 0) (get_or p.w j 0) (get_or q.v i 0) (get_or q.v j 0) pos
        (dot_set_apart p.w q.v i j _ _ (in_w a li) (in_v b lj) apart);
    quadratic = λ a b. cong_of_eq (omega arith);
    v_plus = λ {p} {q} a b.
        rw (get_d_plus d p.v q.v i (in_v a li) (in_v b li), get_d_plus d p.v q.v j (in_v a lj) (in_v b lj), plus_set)
        (ap (λ (x : ℕ). set (plus d p.v q.v) j x) (add_entry d k (get_or p.v i 0) (get_or p.v j 0) (get_or q.v i 0) (get_or q.v j 0) pos).same);
    w_plus = λ {p} {q} a b.
        rw (get_d_plus d p.w q.w i (in_w a li) (in_w b li), get_d_plus d p.w q.w j (in_w a lj) (in_w b lj), plus_set)
        (ap (λ (x : ℕ). set (plus d p.w q.w) i x) (a_entry d k (get_or p.w i 0) (get_or p.w j 0) (get_or q.w i 0) (get_or q.w j 0) pos).same);
    phases = λ h m. frame_a i j k pos (phase_only_range n h pos m) (phase_zero n h i) (phase_zero n h j);
  }

-- ---- M: u is the inverse of k
m_dot : (d k u x y w s : ℕ) → 0 < d → Cong d (k * u) 1 → y + w * s ≡ x + (u * w % d) * (k * s % d) → Cong d y (x + 0)
m_dot d k u x y w s p h e = ring₁_by d (k ∷ u ∷ x ∷ y ∷ w ∷ s ∷ []) p
    (times {z = 1} (search quote) (search quote) (search quote depth 30) (cong_of_eq e) also times {z = w * s} (search quote) (search quote) (search quote) h)
    (search quote depth 30) (search quote depth 30) tt

m_entry : (d k v s : ℕ) → 0 < d → Cong d (k * ((v + s) % d)) (k * v % d + k * s % d)
m_entry d k v s p = ring₁ d (k ∷ v ∷ s ∷ []) p (search quote depth 30) (search quote depth 30) tt

module _ {d n : ℕ} (i k : ℕ) (large : 1 < d) (unit : gcd k d ≡ 1) (l : i < n) where
  pub m_step : Step d n (effect_m d i k)
  m_step = record {
    shift = λ p. 0;
    twist = λ p q. 0;
    range = λ r. set_w_range (set_v_range r i (mod-lt _ pos)) i (mod-lt _ pos);
    phase_by = λ r. sym (idle r.phase_below (cong_refl 0));
    dot_by = λ {p} {q} a b.
        m_dot d k (inverse_of d k) (dot p.w q.v) _ (get_or p.w i 0) (get_or q.v i 0) pos (inverse_times d k large unit)
        (dot_set p.w q.v i _ _ (in_w a l) (in_v b l));
    quadratic = λ a b. cong_of_eq (omega arith);
    v_plus = λ {p} {q} a b.
        rw (get_d_plus d p.v q.v i (in_v a l) (in_v b l), plus_set)
        (ap (λ (x : ℕ). set (plus d p.v q.v) i x) (m_entry d k (get_or p.v i 0) (get_or q.v i 0) pos).same);
    w_plus = λ {p} {q} a b.
        rw (get_d_plus d p.w q.w i (in_w a l) (in_w b l), plus_set)
        (ap (λ (x : ℕ). set (plus d p.w q.w) i x) (m_entry d (inverse_of d k) (get_or p.w i 0) (get_or q.w i 0) pos).same);
    phases = λ h m. frame_m i k pos (phase_only_range n h pos m) (phase_zero n h i);
  }
    where
      pos : 0 < d
      pos = omega arith

-- ---- X and Z
x_quadratic : (d k w t : ℕ) → 0 < d → Cong (2 * d) (neg (2 * d) (2 * (k * ((w + t) % d)))) (neg (2 * d) (2 * (k * w)) + neg (2 * d) (2 * (k * t)) + 2 * 0)
x_quadratic d k w t p = ring₂ d (k ∷ w ∷ t ∷ []) p (search quote depth 30) (search quote depth 30) tt

z_quadratic : (d k v s : ℕ) → 0 < d → Cong (2 * d) (2 * (k * ((v + s) % d))) (2 * (k * v) + 2 * (k * s) + 2 * 0)
z_quadratic d k v s p = ring₂ d (k ∷ v ∷ s ∷ []) p (search quote depth 30) (search quote depth 30) tt

module _ {d n : ℕ} (i k : ℕ) (pos : 0 < d) (l : i < n) where
  pub x_step : Step d n (effect_x d i k)
  x_step = record {
    shift = λ p. neg (2 * d) (2 * (k * get_or p.w i 0));
    twist = λ p q. 0;
    range = λ r. phase_range r (mod-lt _ (omega arith));
    phase_by = λ r. refl;
    dot_by = λ {p} {q} a b. cong_of_eq (omega arith);
    quadratic = λ {p} {q} a b. rw (get_d_plus d p.w q.w i (in_w a l) (in_w b l)) (x_quadratic d k (get_or p.w i 0) (get_or q.w i 0) pos);
    v_plus = λ a b. refl;
    w_plus = λ a b. refl;
    phases = λ h m. frame_x i k pos (phase_only_range n h pos m) (phase_zero n h i);
  }

  pub z_step : Step d n (effect_z d i k)
  z_step = record {
    shift = λ p. 2 * (k * get_or p.v i 0);
    twist = λ p q. 0;
    range = λ r. phase_range r (mod-lt _ (omega arith));
    phase_by = λ r. refl;
    dot_by = λ {p} {q} a b. cong_of_eq (omega arith);
    quadratic = λ {p} {q} a b. rw (get_d_plus d p.v q.v i (in_v a l) (in_v b l)) (z_quadratic d k (get_or p.v i 0) (get_or q.v i 0) pos);
    v_plus = λ a b. refl;
    w_plus = λ a b. refl;
    phases = λ h m. frame_z i k pos (phase_only_range n h pos m) (phase_zero n h i);
  }

-- ---- C
c_dot : (d k x y vi vj wi wj si sj : ℕ) → 0 < d → y + (wi * si + wj * sj) ≡ x + (((wi + k * vj) % d) * si + ((wj + k * vi) % d) * sj) → Cong d y (x + k * (vi * sj + vj * si))
c_dot d k x y vi vj wi wj si sj p e = ring₁_by d (k ∷ x ∷ y ∷ vi ∷ vj ∷ wi ∷ wj ∷ si ∷ sj ∷ []) p
    (times {z = 1} (search quote) (search quote) (search quote depth 30) (cong_of_eq e)) (search quote depth 30) (search quote depth 30) tt

c_quadratic : (d k vi vj si sj : ℕ) → 0 < d
    → Cong (2 * d) (2 * (k * (((vi + si) % d) * ((vj + sj) % d)))) (2 * (k * (vi * vj)) + 2 * (k * (si * sj)) + 2 * (k * (vi * sj + vj * si)))
c_quadratic d k vi vj si sj p = ring₂ d (k ∷ vi ∷ vj ∷ si ∷ sj ∷ []) p (search quote depth 30) (search quote depth 30) tt

module _ {d n : ℕ} (i j k : ℕ) (pos : 0 < d) (li : i < n) (lj : j < n) (apart : i ≢ j) where
  pub c_step : Step d n (effect_c d i j k)
  c_step = record {
    shift = λ p. 2 * (k * (get_or p.v i 0 * get_or p.v j 0));
    twist = λ p q. k * (get_or p.v i 0 * get_or q.v j 0 + get_or p.v j 0 * get_or q.v i 0);
    range = λ r. set_w_range (set_w_range (phase_range r (mod-lt _ (omega arith))) i (mod-lt _ pos)) j (mod-lt _ pos);
    phase_by = λ r. refl;
    dot_by = λ {p} {q} a b.
        c_dot d k (dot p.w q.v) _ (get_or p.v i 0) (get_or p.v j 0) (get_or p.w i 0) (get_or p.w j 0) (get_or q.v i 0) (get_or q.v j 0) pos
        (dot_set_two p.w q.v i j _ _ (in_w a li) (in_w a lj) apart);
    quadratic = λ {p} {q} a b.
        rw (get_d_plus d p.v q.v i (in_v a li) (in_v b li), get_d_plus d p.v q.v j (in_v a lj) (in_v b lj))
        (c_quadratic d k (get_or p.v i 0) (get_or p.v j 0) (get_or q.v i 0) (get_or q.v j 0) pos);
    v_plus = λ a b. refl;
    w_plus = λ {p} {q} a b.
        rw (get_d_plus d p.v q.v i (in_v a li) (in_v b li), get_d_plus d p.v q.v j (in_v a lj) (in_v b lj), get_d_plus d p.w q.w i (in_w a li) (in_w b li), get_d_plus d p.w q.w j (in_w a lj) (in_w b lj), plus_set, plus_set)
        (ap₂ (λ (x y : ℕ). set (set (plus d p.w q.w) i x) j y)
        (add_entry d k (get_or p.v j 0) (get_or p.w i 0) (get_or q.v j 0) (get_or q.w i 0) pos).same
        (add_entry d k (get_or p.v i 0) (get_or p.w j 0) (get_or q.v i 0) (get_or q.w j 0) pos).same);
    phases = λ h m. frame_c i j k (phase_only_range n h pos m) (phase_zero n h i) (phase_zero n h j);
  }

-- ---- W
module _ {d n : ℕ} (i j : ℕ) (pos : 0 < d) (li : i < n) (lj : j < n) (apart : i ≢ j) where
  pub w_step : Step d n (effect_w i j)
  w_step = record {
    shift = λ p. 0;
    twist = λ p q. 0;
    range = λ r. set_w_range (set_w_range (set_v_range (set_v_range r i (v_less r j)) j (v_less r i)) i (w_less r j)) j (w_less r i);
    phase_by = λ r. sym (idle r.phase_below (cong_refl 0));
    dot_by = λ {p} {q} a b. cong_of_eq (omega (arith, dot_exchanged p.w q.v i j (in_w a li) (in_v b li) (in_w a lj) (in_v b lj) apart));
    quadratic = λ a b. cong_of_eq (omega arith);
    v_plus = λ {p} {q} a b. rw (get_d_plus d p.v q.v i (in_v a li) (in_v b li), get_d_plus d p.v q.v j (in_v a lj) (in_v b lj), plus_set, plus_set) refl;
    w_plus = λ {p} {q} a b. rw (get_d_plus d p.w q.w i (in_w a li) (in_w b li), get_d_plus d p.w q.w j (in_w a lj) (in_w b lj), plus_set, plus_set) refl;
    phases = λ h m. frame_w i j (phase_zero n h i) (phase_zero n h j);
  }
