-- No row changes a Pauli whose v and w are 0 at the row's qudits and whose phase is reduced: a law for each kind. Assumes nothing.
use mathlib.Core.Path.{◌≡◌, refl, sym, ap, ◌∙◌}
use mathlib.Core.Bool.{true, ◌&&◌}
use Prim.Native.Nat.{ℕ, zero, suc, ◌+◌, ◌*◌, ◌%◌, ◌<◌}
use native.Mathlib.Nat.{zero-mul}
use native.Mathlib.Omega.{arith}
use lib.ListN.{get_or, set}
use lib.Dec.{eqb, ltb}
use borrow.Author.Tests.{eqb-true, ltb-true}
use Rattle.arith.specs.Residues.{neg}
use Rattle.arith.specs.Units.{inverse_of}
use Rattle.arith.proofs.Refusals.{both_held}
use Rattle.arith.proofs.Cong.{cong_of_eq}
use Rattle.arith.proofs.Remainders.{mod_of, idle, mul_none, neg_none, neg_zero}
use Rattle.pauli.specs.Pauli.{Pauli}
use Rattle.pauli.specs.Inner.Touched.{touched, still}
use Rattle.pauli.specs.Effects.{fourier, effect_f, effect_s, effect_a, effect_m, effect_x, effect_z, effect_c, effect_w}
use Rattle.pauli.proofs.Lists.{set_back, two_back}
use Rattle.pauli.proofs.Ranges.{pauli_path}

-- such a Pauli, at one qudit
pub record Rests (d i : ℕ) (p : Pauli) : Type 0 where
  pub low : p.phase < 2 * d
  pub v_none : get_or p.v i 0 ≡ 0
  pub w_none : get_or p.w i 0 ≡ 0

pub still_rests : (d i j : ℕ) (p : Pauli) → still d (touched i j p) ≡ true → Rests d i p × Rests d j p
still_rests d i j p e =
    let x = get_or p.v i 0 + get_or p.w i 0 in
    let y = get_or p.v j 0 + get_or p.w j 0 in
    let b = both_held (eqb x 0) (eqb y 0 && ltb p.phase (2 * d)) e in
    let c = both_held (eqb y 0) (ltb p.phase (2 * d)) b.1 in
    let here = eqb-true x 0 b.0 in
    let there = eqb-true y 0 c.0 in
    let low = ltb-true p.phase (2 * d) c.1 in
    (record { low = low; v_none = omega (arith, here); w_none = omega (arith, here) }, record { low = low; v_none = omega (arith, there); w_none = omega (arith, there) })

module _ (d i : ℕ) (p : Pauli) (r : Rests d i p) where
  positive : 0 < d
  positive = omega (arith, r.low)

  -- nothing added to the phase and nothing taken from it, and 0 stored where v or w is 0
  plus_none : {x : ℕ} → x ≡ 0 → (p.phase + x) % (2 * d) ≡ p.phase
  plus_none e = idle r.low (cong_of_eq e)

  minus_none : {x : ℕ} → x ≡ 0 → (p.phase + neg (2 * d) x) % (2 * d) ≡ p.phase
  minus_none e = idle r.low (neg_none (omega (arith, r.low)) e)

  v_back : {x : ℕ} → x ≡ 0 → set p.v i x ≡ p.v
  v_back e = set_back p.v i (e ∙ sym r.v_none)

  w_back : {x : ℕ} → x ≡ 0 → set p.w i x ≡ p.w
  w_back e = set_back p.w i (e ∙ sym r.w_none)

  none : {x : ℕ} → x ≡ 0 → x % d ≡ 0
  none {x} e = mod_of x (cong_of_eq e) positive

  -- the kinds
  once_still : fourier d i p ≡ p
  once_still = pauli_path (minus_none (mul_none 2 (mul_none _ r.w_none))) (v_back (neg_zero d _ positive r.w_none)) (w_back r.v_none)

  pub f_still : (k : ℕ) → effect_f d i k p ≡ p
  f_still zero = refl
  f_still (suc k) = ap (fourier d i) (f_still k) ∙ once_still

  pub s_still : (k : ℕ) → effect_s d i k p ≡ p
  s_still k = pauli_path (plus_none (mul_none k (ap (λ (x : ℕ). x * (x + d)) r.v_none ∙ zero-mul (0 + d)))) refl (w_back (none (omega (arith, r.w_none, mul_none k r.v_none))))

  pub m_still : (k : ℕ) → effect_m d i k p ≡ p
  m_still k = pauli_path refl (v_back (none (mul_none k r.v_none))) (w_back (none (mul_none (inverse_of d k) r.w_none)))

  pub x_still : (k : ℕ) → effect_x d i k p ≡ p
  x_still k = pauli_path (minus_none (mul_none 2 (mul_none k r.w_none))) refl refl

  pub z_still : (k : ℕ) → effect_z d i k p ≡ p
  z_still k = pauli_path (plus_none (mul_none 2 (mul_none k r.v_none))) refl refl

pub a_still : (d i j : ℕ) (p : Pauli) → Rests d i p → Rests d j p → (k : ℕ) → effect_a d i j k p ≡ p
a_still d i j p r s k = pauli_path refl
    (v_back d j p s (none d j p s (omega (arith, s.v_none, mul_none k r.v_none))))
    (set_back p.w i (idle (omega (arith, r.low, r.w_none)) (neg_none (omega (arith, r.low)) (mul_none k s.w_none))))

pub c_still : (d i j : ℕ) (p : Pauli) → Rests d i p → Rests d j p → (k : ℕ) → effect_c d i j k p ≡ p
c_still d i j p r s k = pauli_path
    (plus_none d j p s (mul_none 2 (mul_none k (mul_none (get_or p.v i 0) s.v_none))))
    refl
    (two_back p.w i j
    (none d j p s (omega (arith, r.w_none, mul_none k s.v_none)) ∙ sym r.w_none)
    (none d j p s (omega (arith, s.w_none, mul_none k r.v_none)) ∙ sym s.w_none))

pub w_still : (d i j : ℕ) (p : Pauli) → Rests d i p → Rests d j p → effect_w i j p ≡ p
w_still d i j p r s = pauli_path
    refl
    (two_back p.v i j (s.v_none ∙ sym r.v_none) (r.v_none ∙ sym s.v_none))
    (two_back p.w i j (s.w_none ∙ sym r.w_none) (r.w_none ∙ sym s.w_none))
