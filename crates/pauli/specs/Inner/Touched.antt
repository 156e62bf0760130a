-- The numbers of a Pauli that a gate row touches: the phase, and v and w at its qudits i and j. Where the kind takes one qudit, j is i.
use Rattle.std.specs.Prelude.{◌≡◌, ◌≢◌, Bool, ◌&&◌, ℕ, ◌+◌, ◌*◌, ◌<◌, eqb, ltb, length, get_or, set}
use Rattle.pauli.specs.Pauli.{Pauli}
use Rattle.pauli.specs.declared.touched.Touched.{Touched as Code}

pub record Touched : Type 0 where
  pub phase : ℕ
  pub vi : ℕ
  pub wi : ℕ
  pub vj : ℕ
  pub wj : ℕ

-- what the code's numbers stand for
abbrev pub view_touched : Code → Touched
view_touched t = record { phase = t.phase.0; vi = t.vi.0; wi = t.wi.0; vj = t.vj.0; wj = t.wj.0 }

-- those of a Pauli
abbrev pub touched : ℕ → ℕ → Pauli → Touched
touched i j p = record { phase = p.phase; vi = get_or p.v i 0; wi = get_or p.w i 0; vj = get_or p.v j 0; wj = get_or p.w j 0 }

-- no row changes them: v and w are 0 at both qudits, as their sums are, and the phase is below 2·d
abbrev pub still : ℕ → Touched → Bool
still d t = eqb (t.vi + t.wi) 0 && (eqb (t.vj + t.wj) 0 && ltb t.phase (2 * d))

-- the Pauli with another phase, and x and z at qudit i
abbrev pub placed : ℕ → ℕ → ℕ → ℕ → Pauli → Pauli
placed i h x z p = record { phase = h; v = set p.v i x; w = set p.w i z }

-- the Pauli with others in their place
abbrev pub replaced : ℕ → ℕ → Touched → Pauli → Pauli
replaced i j t p = placed j t.phase t.vj t.wj (placed i t.phase t.vi t.wi p)

-- qudit i is one of the Pauli's
pub record Has (i : ℕ) (p : Pauli) : Type 0 where
  pub in_v : i < length p.v
  pub in_w : i < length p.w

-- q is p with these numbers in their place, and they are the ones it has there
pub record Puts (i j : ℕ) (new : Touched) (p q : Pauli) : Type 0 where
  pub replaces : q ≡ replaced i j new p
  pub holds : touched i j q ≡ new

-- an effect on a Pauli makes the numbers `new` of the numbers `old`, whatever the qudits are: on one, and on two
abbrev pub OnOne : (ℕ → Pauli → Pauli) → Touched → Touched → Type 0
OnOne effect old new = (i : ℕ) (p : Pauli) → Has i p → touched i i p ≡ old → Puts i i new p (effect i p)

abbrev pub OnTwo : (ℕ → ℕ → Pauli → Pauli) → Touched → Touched → Type 0
OnTwo effect old new = (i j : ℕ) (p : Pauli) → i ≢ j → Has i p → Has j p → touched i j p ≡ old → Puts i j new p (effect i j p)

-- the same of a function of the code, by what its calls take and give
abbrev pub Makes : (Touched → Touched → Type 0) → (Code → Code → Type 0) → Type 0
Makes on call = (old new : Code) → call old new → on (view_touched old) (view_touched new)
