-- The reduction of a tableau to the unit tableau by rows, each put behind all columns. A state is the tableau so far and the rows so far, the last one first.
use Rattle.std.specs.Prelude.{List, [], ◌∷◌, map, Bool, true, cond, ◌&&◌, ℕ, suc, ◌+◌, ◌*◌, ◌-◌, ◌/◌, ◌%◌, get_or, eqb, ltb}
use Rattle.arith.specs.Residues.{neg}
use Rattle.arith.specs.Units.{least_multiplier, inverse_of, divides, quotient}
use Rattle.pauli.specs.Pauli.{Pauli}
use Rattle.gates.specs.Row.{Row, F, S, A, M, X, Z, apply, undo}
use Rattle.tableau.specs.Tableau.{column, up_from}

pub record State : Type 0 where
  pub tableau : List Pauli
  pub rows : List Row

-- no row yet
abbrev pub start : List Pauli → State
start t = record { tableau = t; rows = [] }

-- one row put behind; a power that does nothing is no row
abbrev pub put : ℕ → Row → State → State
put d r s = record { tableau = map (apply d r) s.tableau; rows = r ∷ s.rows }

abbrev pub put_a : ℕ → ℕ → ℕ → ℕ → State → State
put_a d i j k s = cond (eqb k 0) s (put d (A i j k) s)

abbrev pub put_m : ℕ → ℕ → ℕ → State → State
put_m d i k s = cond (eqb k 1) s (put d (M i k) s)

abbrev pub put_x : ℕ → ℕ → ℕ → State → State
put_x d i k s = cond (eqb k 0) s (put d (X i k) s)

abbrev pub put_z : ℕ → ℕ → ℕ → State → State
put_z d i k s = cond (eqb k 0) s (put d (Z i k) s)

-- the power of S that does to the entries what power k < d does, and is nearer to 0 modulo 2·d; where k and k + d are as near, k + d, whose undo row has the lower power
unfoldable pub near_power : ℕ → ℕ → ℕ
near_power d k = cond (ltb (2 * k) d) k (k + d)

-- S on i: w at i grows by k·v
abbrev pub put_s : ℕ → ℕ → ℕ → State → State
put_s d i k s = cond (eqb (k % d) 0) s (put d (S i (near_power d (k % d))) s)

-- the entries of a column
abbrev pub v_at : ℕ → State → ℕ → ℕ → ℕ
v_at n s c i = get_or (column n s.tableau c).v i 0

abbrev pub w_at : ℕ → State → ℕ → ℕ → ℕ
w_at n s c i = get_or (column n s.tableau c).w i 0

-- powers are reduced modulo d, so that they are legal whatever the entries are
abbrev pub minus : ℕ → ℕ → ℕ
minus d x = neg d x % d

-- a step for each number of a list, in order
abbrev pub each : (ℕ → State → State) → List ℕ → State → State
each f [] s = s
each f (j ∷ js) s = each f js (f j s)

-- ---- column c is straightened at qudit j: w is made 0 there
module _ (d n c j : ℕ) where
  -- S, after which gcd(w, d) divides v
  abbrev pub gather_w : State → State
  gather_w s = put_s d j (least_multiplier d (w_at n s c j) (v_at n s c j)) s

  -- F, by which v and w change places and one is negated: with power 1 or 3, whichever makes the new v, −w or w, the lower
  abbrev pub exchange : State → State
  exchange s = put d (F j (cond (ltb d (2 * w_at n s c j)) 1 3)) s

  -- the power of S that makes w 0, where gcd(v, d) divides it; d else, which puts no row
  abbrev pub clearing : List Pauli → ℕ
  clearing t = quotient d (get_or (column n t c).v j 0) (minus d (get_or (column n t c).w j 0))

  abbrev pub clear_w : State → State
  clear_w s = put_s d j (clearing s.tableau) s

  -- where gcd(v, d) doesn't divide w, it does so once they are gathered and have changed places
  unfoldable pub straighten : State → State
  straighten s = clear_w (cond (divides d (v_at n s c j) (w_at n s c j)) s (exchange (gather_w s)))

-- v of a Pauli is 0 at every qudit of a list
abbrev pub no_v : Pauli → List ℕ → Bool
no_v p [] = true
no_v p (j ∷ js) = eqb (get_or p.v j 0) 0 && no_v p js

-- ---- one stage: column t becomes unit t and column n + t unit n + t, up to phases
module _ (d n t : ℕ) where
  abbrev pub later : List ℕ
  later = up_from (suc t) (n - suc t)

  -- t and the later ones
  abbrev pub onward : List ℕ
  onward = up_from t (n - t)

  -- gcd(v, d) at t is made to divide v at j
  abbrev pub gather : ℕ → State → State
  gather j s = put_a d j t (least_multiplier d (v_at n s t t) (v_at n s t j)) s

  -- v at t is made 1
  abbrev pub scale : State → State
  scale s = put_m d t (inverse_of d (v_at n s t t)) s

  abbrev pub clear_v : ℕ → State → State
  clear_v j s = put_a d t j (minus d (v_at n s t j)) s

  abbrev pub clear_partner_w : ℕ → State → State
  clear_partner_w j s = put_a d j t (w_at n s (n + t) j % d) s

  abbrev pub clear_partner_v : ℕ → State → State
  clear_partner_v j s = put_a d t j (v_at n s (n + t) j % d) s

  abbrev pub shear_partner : State → State
  shear_partner s = put_s d t (w_at n s (n + t) t) s

  -- column t: w is made 0 everywhere; then gcd(v, d) at t divides every v, so that by pairing v at t is a unit
  unfoldable pub gathered : State → State
  gathered s = each gather later (each (straighten d n t) onward s)

  -- and v is made 1 at t and 0 elsewhere
  unfoldable pub first_column : State → State
  first_column s = each clear_v later (scale (gathered s))

  -- column n + t: w is made 0 at the later qudits, by one A for each where v is 0 at all of them
  unfoldable pub partner_straightened : State → State
  partner_straightened s =
      cond (no_v (column n s.tableau (n + t)) later) (each clear_partner_w later s) (each (straighten d n (n + t)) later s)

  -- v is made 0 everywhere, while w at t stays 1
  unfoldable pub partner_turned : State → State
  partner_turned s = put d (F t 3) (shear_partner (each clear_partner_v later (put d (F t 1) s)))

  -- where v isn't 0 everywhere already
  unfoldable pub second_column : State → State
  second_column s = cond (no_v (column n s.tableau (n + t)) onward) s (partner_turned s)

  unfoldable pub stage : State → State
  stage s = second_column (partner_straightened (first_column s))

-- ---- the phases, once the columns are units: that of column i, and that of column n + i
abbrev pub clear_z : ℕ → ℕ → ℕ → State → State
clear_z d n i s = put_z d i (minus d ((column n s.tableau i).phase / 2)) s

abbrev pub clear_x : ℕ → ℕ → ℕ → State → State
clear_x d n i s = put_x d i ((column n s.tableau (n + i)).phase / 2 % d) s

abbrev pub phases : ℕ → ℕ → ℕ → State → State
phases d n i s = clear_x d n i (clear_z d n i s)

unfoldable pub reduce : ℕ → ℕ → State → State
reduce d n s = each (phases d n) (up_from 0 n) (each (stage d n) (up_from 0 n) s)

-- the list that does the tableau: the rows' undo rows, the last one first, which is the order of the state
unfoldable pub synthesised : ℕ → ℕ → List Pauli → List Row
synthesised d n t = map (undo d) (reduce d n (start t)).rows
