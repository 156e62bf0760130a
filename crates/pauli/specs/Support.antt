-- Which qudits a Pauli touches (document 02, P7). Qudits count from 0 here, so that qudit i has bit i of the word.
use Rattle.std.specs.Prelude.{List, [], ◌∷◌, cond, ◌&&◌, ℕ, ◌+◌, ◌*◌, eqb}
use Rattle.pauli.specs.Pauli.{Pauli}

-- a qudit is touched where its v or its w isn't 0: 1 if it is, else 0
unfoldable pub mark : ℕ → ℕ → ℕ
mark x z = cond (eqb x 0 && eqb z 0) 0 1

-- the marks of the qudits, in their order
abbrev pub marks : List ℕ → List ℕ → List ℕ
marks [] ws = []
marks (x ∷ vs) [] = []
marks (x ∷ vs) (z ∷ ws) = mark x z ∷ marks vs ws

-- the word whose bits are these, the lowest first
abbrev pub word_of : List ℕ → ℕ
word_of [] = 0
word_of (b ∷ bs) = b + 2 * word_of bs

-- how many of them are 1: their sum
abbrev pub total : List ℕ → ℕ
total [] = 0
total (b ∷ bs) = b + total bs

-- the support word of a Pauli: bit i is set exactly when v or w of qudit i isn't 0
abbrev pub support_of : Pauli → ℕ
support_of p = word_of (marks p.v p.w)

-- the number of qudits that it touches
abbrev pub touched_of : Pauli → ℕ
touched_of p = total (marks p.v p.w)
