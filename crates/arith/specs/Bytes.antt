-- Numbers in bytes (document 01, "Bytes"): each number is two bytes, low byte first. Every layout is a run of numbers.
use Rattle.std.specs.Prelude.{List, [], ◌∷◌, ◌++◌, ℕ, zero, suc, ◌+◌, ◌*◌, ◌/◌, ◌%◌, length, get_or, drop}

-- the list f 0, f 1, .., f (n − 1)
unfoldable pub tab : {A : Type 0} → (ℕ → A) → ℕ → List A
tab f zero = []
tab f (suc n) = f 0 ∷ tab (λ i. f (suc i)) n

-- number k of the bytes, counted from 0
unfoldable pub number_at : List ℕ → ℕ → ℕ
number_at b k = get_or b (2 * k) 0 + 256 * get_or b (2 * k + 1) 0

-- the n numbers from number k on
abbrev pub numbers_at : List ℕ → ℕ → ℕ → List ℕ
numbers_at b k n = tab (λ i. number_at b (k + i)) n

-- the bytes of the numbers
unfoldable pub bytes_of : List ℕ → List ℕ
bytes_of [] = []
bytes_of (x ∷ xs) = x % 256 ∷ x / 256 ∷ bytes_of xs

-- an answer at the front of an output, whose other bytes don't change
abbrev pub front : List ℕ → List ℕ → List ℕ
front answer out = answer ++ drop (length answer) out
