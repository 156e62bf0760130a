-- The frame law of each kind of row: a Pauli that is zero at the row's qudits does not change.
use mathlib.Core.Path.{◌≡◌, refl, sym, ◌∙◌, ap}
use Prim.Native.Nat.{ℕ, zero, suc, ◌%◌, ◌<◌}
use native.Mathlib.Nat.{zero-mod}
use native.Mathlib.Omega.{arith}
use lib.ListN.{get_or}
use Rattle.arith.proofs.Cong.{cong_of_eq}
use Rattle.arith.proofs.Remainders.{idle, neg_none, mul_none, neg_zero}
use Rattle.arith.specs.Units.{inverse_of}
use Rattle.pauli.specs.Pauli.{Pauli, InRange, phase_only}
use Rattle.pauli.proofs.Lists.{get_d_zeros, set_back, two_back}
use Rattle.pauli.proofs.Ranges.{pauli_path, w_less, v_less}
use Rattle.pauli.specs.Effects.{fourier, times, effect_f, effect_s, effect_a, effect_m, effect_x, effect_z, effect_c, effect_w}

pub record ZeroAt (i : ℕ) (p : Pauli) : Type 0 where
  pub v_zero : get_or p.v i 0 ≡ 0
  pub w_zero : get_or p.w i 0 ≡ 0

pub fourier_frame : {d n : ℕ} {p : Pauli} (i : ℕ) → 0 < d → InRange d n p → ZeroAt i p → fourier d i p ≡ p
fourier_frame {d} {p = p} i pos r z = pauli_path
    (idle r.phase_below (neg_none (omega arith) (mul_none 2 (mul_none (get_or p.v i 0) z.w_zero))))
    (set_back p.v i (neg_zero d (get_or p.w i 0) pos z.w_zero ∙ sym z.v_zero))
    (set_back p.w i (z.v_zero ∙ sym z.w_zero))

times_fixed : (k : ℕ) (f : Pauli → Pauli) {p : Pauli} → f p ≡ p → times k f p ≡ p
times_fixed zero f e = refl
times_fixed (suc k) f e = ap f (times_fixed k f e) ∙ e

module _ {d n : ℕ} {p : Pauli} (i k : ℕ) (pos : 0 < d) (a : InRange d n p) (z : ZeroAt i p) where
  pub frame_f : effect_f d i k p ≡ p
  frame_f = times_fixed k (fourier d i) (fourier_frame i pos a z)

  pub frame_s : effect_s d i k p ≡ p
  frame_s = pauli_path
      (idle a.phase_below (cong_of_eq (mul_none k (rw z.v_zero (omega arith)))))
      refl
      (set_back p.w i (idle (w_less a i) (cong_of_eq (mul_none k z.v_zero))))

  pub frame_m : effect_m d i k p ≡ p
  frame_m = pauli_path
      refl
      (set_back p.v i (ap (λ (x : ℕ). x % d) (mul_none k z.v_zero) ∙ zero-mod d ∙ sym z.v_zero))
      (set_back p.w i (ap (λ (x : ℕ). x % d) (mul_none (inverse_of d k) z.w_zero) ∙ zero-mod d ∙ sym z.w_zero))

  pub frame_x : effect_x d i k p ≡ p
  frame_x = pauli_path (idle a.phase_below (neg_none (omega arith) (mul_none 2 (mul_none k z.w_zero)))) refl refl

  pub frame_z : effect_z d i k p ≡ p
  frame_z = pauli_path (idle a.phase_below (cong_of_eq (mul_none 2 (mul_none k z.v_zero)))) refl refl

pub frame_a : {d n : ℕ} {p : Pauli} (i j k : ℕ) → 0 < d → InRange d n p → ZeroAt i p → ZeroAt j p → effect_a d i j k p ≡ p
frame_a {d} {p = p} i j k pos a z y = pauli_path
    refl
    (set_back p.v j (idle (v_less a j) (cong_of_eq (mul_none k z.v_zero))))
    (set_back p.w i (idle (w_less a i) (neg_none pos (mul_none k y.w_zero))))

pub frame_c : {d n : ℕ} {p : Pauli} (i j k : ℕ) → InRange d n p → ZeroAt i p → ZeroAt j p → effect_c d i j k p ≡ p
frame_c {p = p} i j k a z y = pauli_path
    (idle a.phase_below (cong_of_eq (mul_none 2 (mul_none k (mul_none (get_or p.v i 0) y.v_zero)))))
    refl
    (two_back p.w i j (idle (w_less a i) (cong_of_eq (mul_none k y.v_zero))) (idle (w_less a j) (cong_of_eq (mul_none k z.v_zero))))

pub frame_w : {p : Pauli} (i j : ℕ) → ZeroAt i p → ZeroAt j p → effect_w i j p ≡ p
frame_w {p} i j z y = pauli_path
    refl
    (two_back p.v i j (y.v_zero ∙ sym z.v_zero) (z.v_zero ∙ sym y.v_zero))
    (two_back p.w i j (y.w_zero ∙ sym z.w_zero) (z.w_zero ∙ sym y.w_zero))

-- a phase alone has only zeros
pub phase_zero : (n h i : ℕ) → ZeroAt i (phase_only n h)
phase_zero n h i = record { v_zero = get_d_zeros n i; w_zero = get_d_zeros n i }
