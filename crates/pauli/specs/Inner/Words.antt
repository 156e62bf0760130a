-- What the code does to a support word, whatever the qudits' marks are. It holds the word alone, not the marks.
use Rattle.std.specs.Prelude.{◌≡◌, List, [], ◌∷◌, ◌++◌, ℕ, ◌<◌, length, set}
use Rattle.pauli.specs.Pauli.{Below}
use Rattle.pauli.specs.Support.{mark, word_of}

-- r is the word of i qudits, as `word` is, and of one more, which has the entries x and z
abbrev pub Joins : ℕ → ℕ → ℕ → ℕ → ℕ → Type 0
Joins word i x z r = (ms : List ℕ) → Below 2 ms → length ms ≡ i → word ≡ word_of ms → r ≡ word_of (ms ++ (mark x z ∷ []))

-- r is the word of the same qudits as `word` is, but that qudit i has the entries x and z
abbrev pub Changes : ℕ → ℕ → ℕ → ℕ → ℕ → Type 0
Changes word i x z r = (ms : List ℕ) → Below 2 ms → i < length ms → word ≡ word_of ms → r ≡ word_of (set ms i (mark x z))
