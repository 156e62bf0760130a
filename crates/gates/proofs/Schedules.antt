-- Ticks are the shortest schedule: the rows' ticks are a schedule of the list, and none has a row earlier or ends earlier. Holds for all lists of rows.
use mathlib.Core.Path.{◌≡◌}
use mathlib.Core.Bool.{true}
use mathlib.Core.List.{List, [], ◌∷◌}
use Prim.Native.Nat.{ℕ, ◌≤◌, ◌<◌}
use native.Mathlib.Omega.{arith}
use Rattle.gates.specs.Row.{Row, uses}
use Rattle.gates.specs.Ticks.{largest, tick_of, after_row, row_ticks, unused, ticks}
use Rattle.gates.specs.Schedules.{After, nothing, later, Schedule, empty, starts, NoLater, no_ticks, a_tick}
use Rattle.gates.proofs.Ticks.{tick_after, tick_first, tick_positive, after_row_lem, after_used, after_rises}

-- ---- the rows' ticks are a schedule
-- what runs where r's qudits were used in tick t or later runs after t
after_last : (r : Row) (t : ℕ) (rs : List Row) (last : ℕ → ℕ) → ((q : ℕ) → uses r q ≡ true → t ≤ last q) → After r t rs (row_ticks last rs)
unfolding row_ticks
after_last r t [] last h = nothing
after_last r t (s ∷ rs) last h =
    let now : (q : ℕ) → uses r q ≡ true → uses s q ≡ true → t < tick_of last s = λ q e f. omega (arith, h q e, tick_after last s q f) in
    later now (after_last r t rs (after_row last s) (λ q e. omega (arith, h q e, after_rises last s q)))

scheduled : (rs : List Row) (last : ℕ → ℕ) → Schedule rs (row_ticks last rs)
unfolding row_ticks
scheduled [] last = empty
scheduled (r ∷ rs) last = starts (tick_positive last r) (after_last r (tick_of last r) rs (after_row last r) (λ q e. omega (arith, after_used last r q e))) (scheduled rs (after_row last r))

pub ticks_scheduled : (rs : List Row) → Schedule rs (row_ticks unused rs)
ticks_scheduled rs = scheduled rs unused

-- ---- and none has a row earlier
-- of the rows of a schedule, each runs after the last ticks of its qudits
data Follows (last : ℕ → ℕ) : List Row → List ℕ → Type 0 where
  no_row : Follows last [] []
  a_row : {r : Row} {rs : List Row} {t : ℕ} {ts : List ℕ} → ((q : ℕ) → uses r q ≡ true → last q < t) → Follows last rs ts → Follows last (r ∷ rs) (t ∷ ts)

follows_next : {r : Row} {t : ℕ} {rs : List Row} {ts : List ℕ} (last : ℕ → ℕ) → tick_of last r ≤ t → After r t rs ts → Follows last rs ts → Follows (after_row last r) rs ts
follows_next last h nothing no_row = no_row
follows_next {r} {t} last h (later {s = s} {u = u} a rest) (a_row f fs) =
    let now : (q : ℕ) → uses s q ≡ true → after_row last r q < u = λ q e. after_row_lem last r q (λ x. x < u) (λ v. omega (arith, a q v e)) (λ v. f q e) in
    a_row now (follows_next last h rest fs)

earliest : {rs : List Row} {ts : List ℕ} (last : ℕ → ℕ) → Schedule rs ts → Follows last rs ts → NoLater (row_ticks last rs) ts
unfolding row_ticks
earliest last empty no_row = no_ticks
earliest last (starts {r = r} {t = t} p a s) (a_row f fs) =
    let now = tick_first last r t p f in
    a_tick now (earliest (after_row last r) s (follows_next last now a fs))

follows_unused : {rs : List Row} {ts : List ℕ} → Schedule rs ts → Follows unused rs ts
follows_unused empty = no_row
follows_unused (starts p a s) = a_row (λ q e. p) (follows_unused s)

pub ticks_earliest : {rs : List Row} {ts : List ℕ} → Schedule rs ts → NoLater (row_ticks unused rs) ts
ticks_earliest s = earliest unused s (follows_unused s)

-- ---- so none ends earlier
no_later_largest : {ss ts : List ℕ} → NoLater ss ts → largest ss ≤ largest ts
unfolding largest
no_later_largest no_ticks = omega arith
no_later_largest (a_tick l e) = omega (arith, no_later_largest e)

pub ticks_least : {rs : List Row} {ts : List ℕ} → Schedule rs ts → ticks rs ≤ largest ts
unfolding ticks
ticks_least s = no_later_largest (ticks_earliest s)
