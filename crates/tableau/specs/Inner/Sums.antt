-- A product of powers of columns in work: its phase, and sums that are not reduced, those of v and those of w at 16 places each, of which the first n are in use.
use Rattle.std.specs.Prelude.{◌≡◌, List, ℕ, ◌+◌, ◌*◌, ◌%◌, ◌≤◌, ◌<◌, get_or}
use Rattle.arith.specs.Bytes.{tab}
use Rattle.pauli.specs.Pauli.{Pauli}
use Rattle.pauli.specs.Inner.View.{at}
use Rattle.tableau.specs.declared.column.Column.{Column}
use Rattle.tableau.specs.declared.sums.Product.{Product}

-- what the phase and the sums stand for
unfoldable pub product_view : ℕ → ℕ → Product → Pauli
product_view d n p = record { phase = p.phase.0; v = tab (λ i. get_or p.v i 0 % d) n; w = tab (λ i. get_or p.w i 0 % d) n }

-- a column whose entries are at most 1,023, as they are at every dimension
abbrev pub Small : ℕ → Column → Type 0
Small n c = (i : ℕ) → i < n → (at c.v i ≤ 1023) × (at c.w i ≤ 1023)

-- m powers of such columns are multiplied: no sum is above m times 65,535·1,023
pub record Summed (m : ℕ) (p : Product) : Type 0 where
  pub v : (i : ℕ) → get_or p.v i 0 ≤ m * 67042305
  pub w : (i : ℕ) → get_or p.w i 0 ≤ m * 67042305

-- f 0, f 1, .. are added to the first n sums, and no sum grows by more than 65,535·1,023
pub record Grown (f : ℕ → ℕ) (n : ℕ) (old new : List ℕ) : Type 0 where
  pub added : (i : ℕ) → i < n → get_or new i 0 ≡ get_or old i 0 + f i
  pub bounded : (i : ℕ) → get_or new i 0 ≤ get_or old i 0 + 67042305

-- k times the entries of the column c are added, and the phase is as it was
pub record Added (k n : ℕ) (c : Column) (old new : Product) : Type 0 where
  pub phase : new.phase ≡ old.phase
  pub v : Grown (λ i. k * at c.v i) n old.v new.v
  pub w : Grown (λ i. k * at c.w i) n old.w new.w
