-- Each kind of row, with all that the upper crates use of it: one record, filled in for each kind. A new kind adds one entry.
use mathlib.Core.Path.{◌≡◌}
use mathlib.Core.Logic.{◌≢◌}
use Prim.Native.Nat.{ℕ, zero, suc, ◌*◌, ◌-◌, ◌≤◌, ◌<◌}
use native.Mathlib.Omega.{arith}
use Rattle.arith.specs.Gcd.{gcd}
use Rattle.arith.specs.Units.{inverse_of}
use Rattle.pauli.specs.Pauli.{Pauli, InRange, comm, parity}
use Rattle.pauli.specs.Effects.{times, effect_f, effect_s, effect_a, effect_m, effect_x, effect_z, effect_c, effect_w}
use Rattle.pauli.proofs.Hom.{Hom, hom_id, hom_then, hom_comm, hom_parity}
use Rattle.pauli.proofs.Frame.{ZeroAt, frame_f, frame_s, frame_a, frame_m, frame_x, frame_z, frame_c, frame_w}
use Rattle.pauli.proofs.Step.{step_hom}
use Rattle.pauli.proofs.Steps.{fourier_step, s_step, a_step, m_step, x_step, z_step, c_step, w_step}
use Rattle.pauli.proofs.Undo.{undone_f, undone_s, undone_a, undone_m, undone_x, undone_z, undone_c, undone_w}

-- f keeps ranges, products and phases; it leaves a Pauli alone that is away from its qudits; back undoes it
pub record Gate (d n : ℕ) (f back : Pauli → Pauli) (Away : Pauli → Type 0) : Type 0 where
  pub hom : Hom d n f
  pub frame : {p : Pauli} → InRange d n p → Away p → f p ≡ p
  pub undone : {p : Pauli} → InRange d n p → back (f p) ≡ p

-- so it keeps commutation numbers and parities
module _ {d n : ℕ} {f back : Pauli → Pauli} {Away : Pauli → Type 0} (large : 1 < d) (g : Gate d n f back Away) where
  pub gate_comm : (p q : Pauli) → InRange d n p → InRange d n q → comm d (f p) (f q) ≡ comm d p q
  gate_comm = hom_comm {n = n} {f = f} (omega arith) g.hom

  pub gate_parity : (p : Pauli) → InRange d n p → parity d (f p) ≡ parity d p
  gate_parity = hom_parity {n = n} {f = f} (omega arith) g.hom

hom_times : {d n : ℕ} {f : Pauli → Pauli} (k : ℕ) → Hom d n f → Hom d n (times k f)
hom_times {d} {n} zero m = hom_id d n
hom_times (suc k) m = hom_then (hom_times k m) m

-- ---- the kinds on one qudit
module _ {d n : ℕ} (i k : ℕ) (large : 1 < d) (l : i < n) where
  pos : 0 < d
  pos = omega arith

  pub gate_f : 1 ≤ k → k ≤ 3 → Gate d n (effect_f d i k) (effect_f d i (4 - k)) (ZeroAt i)
  gate_f low high = record {
    hom = hom_times k (step_hom pos (fourier_step i pos l));
    frame = λ r z. frame_f i k pos r z;
    undone = λ r. undone_f i pos l k low high r;
  }

  pub gate_s : k ≤ 2 * d → Gate d n (effect_s d i k) (effect_s d i (2 * d - k)) (ZeroAt i)
  gate_s high = record { hom = step_hom pos (s_step i k pos l); frame = λ r z. frame_s i k pos r z; undone = λ r. undone_s i k l r high }

  pub gate_m : gcd k d ≡ 1 → Gate d n (effect_m d i k) (effect_m d i (inverse_of d k)) (ZeroAt i)
  gate_m unit = record { hom = step_hom pos (m_step i k large unit l); frame = λ r z. frame_m i k pos r z; undone = λ r. undone_m i k l r large unit }

  pub gate_x : k ≤ d → Gate d n (effect_x d i k) (effect_x d i (d - k)) (ZeroAt i)
  gate_x high = record { hom = step_hom pos (x_step i k pos l); frame = λ r z. frame_x i k pos r z; undone = λ r. undone_x i k l r pos high }

  pub gate_z : k ≤ d → Gate d n (effect_z d i k) (effect_z d i (d - k)) (ZeroAt i)
  gate_z high = record { hom = step_hom pos (z_step i k pos l); frame = λ r z. frame_z i k pos r z; undone = λ r. undone_z i k l r high }

-- ---- the kinds on two
pub gate_a : {d n : ℕ} (i j k : ℕ) → 1 < d → i < n → j < n → i ≢ j → k ≤ d → Gate d n (effect_a d i j k) (effect_a d i j (d - k)) (λ p. ZeroAt i p × ZeroAt j p)
gate_a i j k large li lj apart high = record {
  hom = step_hom (omega arith) (a_step i j k (omega arith) li lj apart);
  frame = λ r z. frame_a i j k (omega arith) r z.0 z.1;
  undone = λ r. undone_a i j k (omega arith) li lj apart high r;
}

pub gate_c : {d n : ℕ} (i j k : ℕ) → 1 < d → i < n → j < n → i ≢ j → k ≤ d → Gate d n (effect_c d i j k) (effect_c d i j (d - k)) (λ p. ZeroAt i p × ZeroAt j p)
gate_c i j k large li lj apart high = record {
  hom = step_hom (omega arith) (c_step i j k (omega arith) li lj apart);
  frame = λ r z. frame_c i j k r z.0 z.1;
  undone = λ r. undone_c i j k li lj apart high r;
}

pub gate_w : {d n : ℕ} (i j : ℕ) → 1 < d → i < n → j < n → i ≢ j → Gate d n (effect_w i j) (effect_w i j) (λ p. ZeroAt i p × ZeroAt j p)
gate_w i j large li lj apart = record {
  hom = step_hom (omega arith) (w_step i j (omega arith) li lj apart);
  frame = λ r z. frame_w i j z.0 z.1;
  undone = λ r. undone_w i j li lj apart r;
}
