-- Refusal 8's advice: a tableau whose pairing holds is sound once 1 is added, modulo 2·d, to the phase of each column whose sum is odd. Assumes nothing.
use mathlib.Core.Path.{◌≡◌, refl, ◌∙◌, ap}
use mathlib.Core.List.{List, [], ◌∷◌}
use Prim.Native.Nat.{ℕ, zero, suc, ◌+◌, ◌*◌, ◌-◌, ◌%◌, ◌<◌}
use native.Mathlib.Nat.{mod-lt, mod-eq_of_lt}
use native.Mathlib.Omega.{arith}
use lib.ListN.{length, get_or}
use Rattle.arith.proofs.Cong.{cong_mod, cong_elim, cong_intro}
use Rattle.pauli.specs.Pauli.{Pauli, InRange, dot, comm, parity, phase_only}
use Rattle.pauli.proofs.Ranges.{phase_range}
use Rattle.tableau.specs.Tableau.{column, Pairing, WellFormed, Sound}
use Rattle.tableau.specs.Soundness.{mended_column, mended}
use Rattle.tableau.proofs.Columns.{map_kept}

-- ---- a column
-- a number modulo 2·d has its parity
same_parity : (d x : ℕ) → x % (2 * d) % 2 ≡ x % 2
same_parity d x = let z = cong_elim (cong_mod {m = 2 * d} x) in (cong_intro {m = 2} {a = x % (2 * d)} {b = x} (z.k * d) (z.l * d) (omega (arith, z.eq))).same

pub mended_even : (d : ℕ) (c : Pauli) → parity d (mended_column d c) ≡ 0
mended_even d c = let s = (d - 1) * dot c.w c.v in omega (arith, same_parity d (c.phase + (c.phase + s) % 2))

-- a column whose sum is even stays as it is
pub mended_same : {d n : ℕ} {c : Pauli} → InRange d n c → parity d c ≡ 0 → mended_column d c ≡ c
mended_same {d} {c = c} r e = λ i. record { phase = phases i; v = c.v; w = c.w }
  where
    phases : (c.phase + parity d c) % (2 * d) ≡ c.phase
    phases = ap (λ (x : ℕ). x % (2 * d)) (omega (arith, e)) ∙ mod-eq_of_lt r.phase_below

-- ---- a tableau
mended_at : (d : ℕ) (t : List Pauli) (z : Pauli) (j : ℕ) → j < length t → get_or (mended d t) j z ≡ mended_column d (get_or t j z)
mended_at d [] z j l = absurd (omega arith)
mended_at d (c ∷ cs) z zero l = refl
mended_at d (c ∷ cs) z (suc j) l = mended_at d cs z j (omega arith)

pub mended_formed : {d n : ℕ} {t : List Pauli} → 0 < d → WellFormed d n t → WellFormed d n (mended d t)
mended_formed {d} pos g = map_kept (λ c r. phase_range r (mod-lt (c.phase + parity d c) (omega arith))) g

pub mended_sound : {d n : ℕ} {t : List Pauli} → 0 < d → WellFormed d n t → Pairing d n t → Sound d n (mended d t)
mended_sound {d} {n} {t} pos g p = record {
  pairing = record { pairs = λ j k l m. (λ i. comm d (at j (omega arith) i) (at k m i)) ∙ p.pairs j k l m };
  parities = record { even = λ j l. ap (parity d) (at j l) ∙ mended_even d (column n t j) };
}
  where
    at : (j : ℕ) → j < 2 * n → column n (mended d t) j ≡ mended_column d (column n t j)
    at j l = mended_at d t (phase_only n 0) j (omega (arith, g.columns))
