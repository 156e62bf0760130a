-- Paulis on n qudits of dimension d: a phase modulo 2·d, and the residues v and w modulo d of each qudit (document 01, "Paulis").
-- Qudits and columns count from 0 here; the byte layouts count from 1.
use Rattle.std.specs.Prelude.{◌≡◌, List, [], ◌∷◌, cond, ℕ, zero, suc, ◌+◌, ◌*◌, ◌-◌, ◌%◌, ◌<◌, length, set, replicate, ltb}
use Rattle.arith.specs.Residues.{neg}

pub record Pauli : Type 0 where
  pub phase : ℕ
  pub v : List ℕ
  pub w : List ℕ

-- every number of the list is below d
pub data Below (d : ℕ) : List ℕ → Type 0 where
  none : Below d []
  more : {x : ℕ} {xs : List ℕ} → x < d → Below d xs → Below d (x ∷ xs)

pub record InRange (d n : ℕ) (p : Pauli) : Type 0 where
  pub phase_below : p.phase < 2 * d
  pub v_length : length p.v ≡ n
  pub w_length : length p.w ≡ n
  pub v_below : Below d p.v
  pub w_below : Below d p.w

-- w·s: the sum of the products
abbrev pub dot : List ℕ → List ℕ → ℕ
dot [] ys = 0
dot (x ∷ xs) [] = 0
dot (x ∷ xs) (y ∷ ys) = x * y + dot xs ys

-- the sum entry by entry, modulo d
abbrev pub plus : ℕ → List ℕ → List ℕ → List ℕ
plus d [] ys = []
plus d (x ∷ xs) [] = []
plus d (x ∷ xs) (y ∷ ys) = (x + y) % d ∷ plus d xs ys

abbrev pub product : ℕ → Pauli → Pauli → Pauli
product d p q = record {
  phase = (p.phase + q.phase + 2 * dot p.w q.v) % (2 * d);
  v = plus d p.v q.v;
  w = plus d p.w q.w;
}

-- a phase and nothing else
abbrev pub phase_only : ℕ → ℕ → Pauli
phase_only n h = record { phase = h; v = replicate n 0; w = replicate n 0 }

-- k copies, multiplied
abbrev pub power : ℕ → ℕ → Pauli → ℕ → Pauli
power d n p zero = phase_only n 0
power d n p (suc k) = product d (power d n p k) p

-- the commutation number, w·s − v·t
abbrev pub comm : ℕ → Pauli → Pauli → ℕ
comm d p q = (dot p.w q.v + neg d (dot p.v q.w)) % d

-- unit Pauli j: v at j is 1 below n, w at j − n is 1 from n on
abbrev pub unit_x : ℕ → ℕ → Pauli
unit_x n i = record { phase = 0; v = set (replicate n 0) i 1; w = replicate n 0 }

abbrev pub unit_z : ℕ → ℕ → Pauli
unit_z n i = record { phase = 0; v = replicate n 0; w = set (replicate n 0) i 1 }

abbrev pub unit : ℕ → ℕ → Pauli
unit n j = cond (ltb j n) (unit_x n j) (unit_z n (j - n))

-- the number whose parity decides whether the d-th power is the identity: h + (d − 1)·(w·v)
abbrev pub parity : ℕ → Pauli → ℕ
parity d p = (p.phase + (d - 1) * dot p.w p.v) % 2
