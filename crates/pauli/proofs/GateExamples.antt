-- Bench examples c3, c4, c5 and c12 of document 01, and C and W (document 02, P3), computed from the definitions. Qudits count from 0 here.
use mathlib.Core.Path.{◌≡◌, refl}
use mathlib.Core.List.{[], ◌∷◌}
use Prim.Native.Nat.{ℕ, zero, suc, ◌+◌, ◌*◌, ◌%◌, ◌<◌}
use native.Mathlib.Omega.{arith}
use lib.ListN.{get_or}
use Rattle.arith.specs.Residues.{neg}
use Rattle.pauli.specs.Pauli.{Pauli, InRange}
use Rattle.pauli.specs.Effects.{effect_f, effect_s, effect_a, effect_z, effect_c, effect_w}
use Rattle.pauli.proofs.Lists.{set_back}
use Rattle.pauli.proofs.Ranges.{pauli_path, v_less, w_less}

-- d = 4: F on 0; 1; 1 gives 6; 3; 1
pub c3 : effect_f 4 0 1 (record { phase = 0; v = 1 ∷ []; w = 1 ∷ [] }) ≡ record { phase = 6; v = 3 ∷ []; w = 1 ∷ [] }
unfolding neg
c3 = refl

-- d = 4: S on 0; 3; 0 gives 5; 3; 3
pub c4 : effect_s 4 0 1 (record { phase = 0; v = 3 ∷ []; w = 0 ∷ [] }) ≡ record { phase = 5; v = 3 ∷ []; w = 3 ∷ [] }
c4 = refl

-- d = 3: A from 1 to 2 on 0; 1,0; 0,1 gives 0; 1,1; 2,1
pub c5 : effect_a 3 0 1 1 (record { phase = 0; v = 1 ∷ 0 ∷ []; w = 0 ∷ 1 ∷ [] }) ≡ record { phase = 0; v = 1 ∷ 1 ∷ []; w = 2 ∷ 1 ∷ [] }
unfolding neg
c5 = refl

-- d = 4: S power 4 equals Z power 2, on every qudit of every Pauli
s4 : (δ x : ℕ) → x < 4 → (δ + 4 * (x * (x + 4))) % 8 ≡ (δ + 2 * (2 * x)) % 8
s4 δ zero h = refl
s4 δ (suc zero) h = omega arith
s4 δ (suc (suc zero)) h = omega arith
s4 δ (suc (suc (suc zero))) h = omega arith
s4 δ (suc (suc (suc (suc x)))) h = absurd (omega arith)

pub c12 : {n : ℕ} (i : ℕ) {p : Pauli} → InRange 4 n p → effect_s 4 i 4 p ≡ effect_z 4 i 2 p
c12 i {p} r = pauli_path (s4 p.phase (get_or p.v i 0) (v_less r i)) refl (set_back p.w i (let h = w_less r i in omega arith))

-- d = 4: C of power 3 on 0; 1,2; 0,1 adds 2·3·1·2 to the phase, 3·2 to w of the first qudit and 3·1 to w of the second
pub c_power_3 : effect_c 4 0 1 3 (record { phase = 0; v = 1 ∷ 2 ∷ []; w = 0 ∷ 1 ∷ [] }) ≡ record { phase = 4; v = 1 ∷ 2 ∷ []; w = 2 ∷ 0 ∷ [] }
c_power_3 = refl

-- W exchanges v and w of both qudits, and leaves a third one alone
pub w_exchanges : effect_w 0 2 (record { phase = 5; v = 1 ∷ 2 ∷ 3 ∷ []; w = 4 ∷ 5 ∷ 6 ∷ [] }) ≡ record { phase = 5; v = 3 ∷ 2 ∷ 1 ∷ []; w = 6 ∷ 5 ∷ 4 ∷ [] }
w_exchanges = refl
