-- The effect of each kind of gate row on a Pauli (document 01, "Gate rows", and for C and W document 02, P3), a definition for each line of the table.
-- Power k, first qudit i, second qudit j, counted from 0 here. Unnamed numbers don't change; phases are reduced modulo 2·d, entries modulo d.
use Rattle.std.specs.Prelude.{List, ℕ, zero, suc, ◌+◌, ◌*◌, ◌%◌, get_or, set}
use Rattle.arith.specs.Residues.{neg}
use Rattle.arith.specs.Units.{inverse_of}
use Rattle.pauli.specs.Pauli.{Pauli}

-- k times
abbrev pub times : ℕ → (Pauli → Pauli) → Pauli → Pauli
times zero f p = p
times (suc k) f p = f (times k f p)

-- F, once: δ − 2·vi·wi, then vi, wi become −wi, vi
abbrev pub fourier : ℕ → ℕ → Pauli → Pauli
fourier d i p = record {
  phase = (p.phase + neg (2 * d) (2 * (get_or p.v i 0 * get_or p.w i 0))) % (2 * d);
  v = set p.v i (neg d (get_or p.w i 0) % d);
  w = set p.w i (get_or p.v i 0);
}

-- 1, F
abbrev pub effect_f : ℕ → ℕ → ℕ → Pauli → Pauli
effect_f d i k p = times k (fourier d i) p

-- 2, S: δ + k·vi·(vi + d), wi + k·vi
abbrev pub effect_s : ℕ → ℕ → ℕ → Pauli → Pauli
effect_s d i k p = record {
  phase = (p.phase + k * (get_or p.v i 0 * (get_or p.v i 0 + d))) % (2 * d);
  v = p.v;
  w = set p.w i ((get_or p.w i 0 + k * get_or p.v i 0) % d);
}

-- 3, A: vj + k·vi, wi − k·wj
abbrev pub effect_a : ℕ → ℕ → ℕ → ℕ → Pauli → Pauli
effect_a d i j k p = record {
  phase = p.phase;
  v = set p.v j ((get_or p.v j 0 + k * get_or p.v i 0) % d);
  w = set p.w i ((get_or p.w i 0 + neg d (k * get_or p.w j 0)) % d);
}

-- 4, M: vi becomes k·vi, wi becomes k'·wi
abbrev pub effect_m : ℕ → ℕ → ℕ → Pauli → Pauli
effect_m d i k p = record {
  phase = p.phase;
  v = set p.v i (k * get_or p.v i 0 % d);
  w = set p.w i (inverse_of d k * get_or p.w i 0 % d);
}

-- 5, X: δ − 2·k·wi
abbrev pub effect_x : ℕ → ℕ → ℕ → Pauli → Pauli
effect_x d i k p = record {
  phase = (p.phase + neg (2 * d) (2 * (k * get_or p.w i 0))) % (2 * d);
  v = p.v;
  w = p.w;
}

-- 6, Z: δ + 2·k·vi
abbrev pub effect_z : ℕ → ℕ → ℕ → Pauli → Pauli
effect_z d i k p = record {
  phase = (p.phase + 2 * (k * get_or p.v i 0)) % (2 * d);
  v = p.v;
  w = p.w;
}

-- 7, C: wi + k·vj, wj + k·vi, δ + 2·k·vi·vj
abbrev pub effect_c : ℕ → ℕ → ℕ → ℕ → Pauli → Pauli
effect_c d i j k p = record {
  phase = (p.phase + 2 * (k * (get_or p.v i 0 * get_or p.v j 0))) % (2 * d);
  v = p.v;
  w = set (set p.w i ((get_or p.w i 0 + k * get_or p.v j 0) % d)) j ((get_or p.w j 0 + k * get_or p.v i 0) % d);
}

-- entries i and j in each other's place
abbrev pub exchanged : ℕ → ℕ → List ℕ → List ℕ
exchanged i j xs = set (set xs i (get_or xs j 0)) j (get_or xs i 0)

-- 8, W: exchanges both qudits' v and w
abbrev pub effect_w : ℕ → ℕ → Pauli → Pauli
effect_w i j p = record { phase = p.phase; v = exchanged i j p.v; w = exchanged i j p.w }
