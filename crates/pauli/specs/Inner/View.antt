-- What the code's values stand for: of its arrays of 16 the first n entries are in use.
use Rattle.std.specs.Prelude.{◌≡◌, List, ℕ, ◌<◌, get_or}
use Rattle.arith.specs.Bytes.{tab}
use Rattle.arith.specs.declared.residue.Residue.{Residue}
use Rattle.pauli.specs.Pauli.{Pauli}
use Rattle.pauli.specs.Support.{support_of}
use Rattle.pauli.specs.declared.Pauli.{Pauli as Code}

-- the i-th number of an array
abbrev pub at : List Residue → ℕ → ℕ
at xs i = (get_or xs i (record { 0 = 0 })).0

-- its first n
abbrev pub entries : ℕ → List Residue → List ℕ
entries n xs = tab (at xs) n

abbrev pub view : ℕ → Code → Pauli
view n p = record { phase = p.phase.0; v = entries n p.v; w = entries n p.w }

-- the support word that the code keeps is that of its first n entries
abbrev pub WordTrue : ℕ → Code → Type 0
WordTrue n p = p.support ≡ support_of (view n p)

-- what a function of the code, whose calls are these, gives at each i below n: v i and w i
abbrev pub Gives : ℕ → (ℕ → Residue × Residue → Type 0) → (ℕ → ℕ) → (ℕ → ℕ) → Type 0
Gives n call v w = (i : ℕ) (x z : Residue) → i < n → call i (x, z) → (x.0 ≡ v i) × (z.0 ≡ w i)
