-- Gate rows and what they do to a Pauli (document 01, "Gate rows"; C and W, document 02, P3). Qudits count from 0 here.
use Rattle.std.specs.Prelude.{◌≡◌, Bool, false, ◌||◌, List, [], ◌∷◌, ◌≢◌, ℕ, ◌*◌, ◌-◌, ◌≤◌, ◌<◌, eqb}
use Rattle.arith.specs.Gcd.{gcd}
use Rattle.arith.specs.Units.{inverse_of}
use Rattle.pauli.specs.Pauli.{Pauli}
use Rattle.pauli.specs.Effects.{effect_f, effect_s, effect_a, effect_m, effect_x, effect_z, effect_c, effect_w}

pub data Row : Type 0 where
  F : ℕ → ℕ → Row  -- qudit, power
  S : ℕ → ℕ → Row
  A : ℕ → ℕ → ℕ → Row  -- from, to, power
  M : ℕ → ℕ → Row
  X : ℕ → ℕ → Row
  Z : ℕ → ℕ → Row
  C : ℕ → ℕ → ℕ → Row  -- the two qudits, power
  W : ℕ → ℕ → Row  -- the two qudits; its power is 1

pub record OneQudit (n i low k high : ℕ) : Type 0 where
  pub qudit : i < n
  pub power_low : low ≤ k
  pub power_high : k ≤ high

pub record TwoQudits (n i j : ℕ) : Type 0 where
  pub from_qudit : i < n
  pub to_qudit : j < n
  pub apart : i ≢ j

abbrev pub Legal : ℕ → ℕ → Row → Type 0
Legal d n (F i k) = OneQudit n i 1 k 3
Legal d n (S i k) = OneQudit n i 1 k (2 * d - 1)
Legal d n (A i j k) = TwoQudits n i j × OneQudit n i 1 k (d - 1)
Legal d n (M i k) = (gcd k d ≡ 1) × OneQudit n i 1 k (d - 1)
Legal d n (X i k) = OneQudit n i 1 k (d - 1)
Legal d n (Z i k) = OneQudit n i 1 k (d - 1)
Legal d n (C i j k) = TwoQudits n i j × OneQudit n i 1 k (d - 1)
Legal d n (W i j) = TwoQudits n i j

-- the qudits that a row uses: its first, and its second where its kind takes two
abbrev pub qudits_of : Row → List ℕ
qudits_of (F i k) = i ∷ []
qudits_of (S i k) = i ∷ []
qudits_of (A i j k) = i ∷ j ∷ []
qudits_of (M i k) = i ∷ []
qudits_of (X i k) = i ∷ []
qudits_of (Z i k) = i ∷ []
qudits_of (C i j k) = i ∷ j ∷ []
qudits_of (W i j) = i ∷ j ∷ []

-- whether q is one of these
abbrev pub among : ℕ → List ℕ → Bool
among q [] = false
among q (i ∷ is) = eqb q i || among q is

-- whether the row uses qudit q
abbrev pub uses : Row → ℕ → Bool
uses r q = among q (qudits_of r)

-- what a row does to a Pauli: the effect of its kind
abbrev pub apply : ℕ → Row → Pauli → Pauli
apply d (F i k) p = effect_f d i k p
apply d (S i k) p = effect_s d i k p
apply d (A i j k) p = effect_a d i j k p
apply d (M i k) p = effect_m d i k p
apply d (X i k) p = effect_x d i k p
apply d (Z i k) p = effect_z d i k p
apply d (C i j k) p = effect_c d i j k p
apply d (W i j) p = effect_w i j p

-- what a list carries a Pauli to: the first row first
abbrev pub run : ℕ → List Row → Pauli → Pauli
run d [] p = p
run d (r ∷ rs) p = run d rs (apply d r p)

pub data AllLegal (d n : ℕ) : List Row → Type 0 where
  none : AllLegal d n []
  more : {r : Row} {rs : List Row} → Legal d n r → AllLegal d n rs → AllLegal d n (r ∷ rs)

-- the row that undoes a row
abbrev pub undo : ℕ → Row → Row
undo d (F i k) = F i (4 - k)
undo d (S i k) = S i (2 * d - k)
undo d (A i j k) = A i j (d - k)
undo d (M i k) = M i (inverse_of d k)
undo d (X i k) = X i (d - k)
undo d (Z i k) = Z i (d - k)
undo d (C i j k) = C i j (d - k)
undo d (W i j) = W i j
