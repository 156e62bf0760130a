-- What the columns of the tableau in work stand for, however they are kept, and what the code's rows and methods do to the columns and the output that they hold.
use Rattle.std.specs.Prelude.{◌≡◌, ℕ, ◌+◌, ◌*◌, ◌≤◌, length, Option}
use Rattle.arith.specs.Units.{IsUnit}
use Rattle.gates.specs.declared.Row.{Row}
use Rattle.synthesis.specs.Inner.Held.{Held}
use Rattle.synthesis.specs.Inner.Reduce.{State, start, v_at, gathered}
use Rattle.synthesis.specs.Inner.Progress.{Does, Says}
use Rattle.synthesis.specs.declared.reduction.Reduction.{Reduction}

-- a step is given by d and n, which the columns know
-- the row made is what the step puts behind at the columns t
abbrev pub Makes : (ℕ → ℕ → State → State) → Held → Option Row → Type 0
Makes step t made = Says t.d t.n (step t.d t.n) t.tableau made

-- v at q is a unit once it is gathered there
abbrev pub Pivot : Held → ℕ → Type 0
Pivot t q = IsUnit t.d (v_at t.n (gathered t.d t.n q (start t.tableau)) q q)

-- the output has room for so many rows more
abbrev pub Room : {C : Type 0} → Reduction C → ℕ → Type 0
Room r most = 8 * (r.count + most) ≤ length r.out.now

-- below, `held` says what columns of the type C stand for
-- from r to r' at most `most` rows are put behind, and d, n and the output stay
pub record Kept {C : Type 0} (held : C → Held) (most : ℕ) (r r' : Reduction C) : Type 0 where
  pub modulus : (held r'.columns).d ≡ (held r.columns).d
  pub width : (held r'.columns).n ≡ (held r.columns).n
  pub output : r'.out.ghost_name ≡ r.out.ghost_name
  pub size : length r'.out.now ≡ length r.out.now
  pub within : r'.count ≤ r.count + most

-- from r to r' the code does the step, with at most `most` rows
pub record Did {C : Type 0} (held : C → Held) (most : ℕ) (step : ℕ → ℕ → State → State) (r r' : Reduction C) : Type 0 where
  pub modulus : (held r'.columns).d ≡ (held r.columns).d
  pub width : (held r'.columns).n ≡ (held r.columns).n
  -- the output is the same one, and as long
  pub output : r'.out.ghost_name ≡ r.out.ghost_name
  pub size : length r'.out.now ≡ length r.out.now
  pub does : Does (held r.columns).d most (step (held r.columns).d (held r.columns).n) (held r.columns).tableau r.out.now r.count (held r'.columns).tableau r'.out.now r'.count
