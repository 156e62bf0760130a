-- `gates::lists::list_ticks` meets its contract: each row is legal, so its qudits have places in the array, and no tick is above the number of rows.
use Rattle.std.proofs.Common.{◌≡◌, true, ℕ, ◌+◌, ◌-◌, ◌/◌, ◌≤◌, ◌<◌, length, List, refl, arith}
use Rattle.gates.specs.Written.{WrittenRow, all_legal_rows, list_rows, takes_two, row_at}
use Rattle.gates.specs.Inner.View.{view_row, other_of}
use Rattle.gates.proofs.Written.{legal_at, legal_first, legal_second_lem}
use Rattle.gates.proofs.Acts.{legal_other}
use Rattle.gates.proofs.LastTicks.{running_start, running_low, running_next}
use Rattle.gates.proofs.lists.list_ticks.Goals as goal

-- the places of a row's qudits in the array
record Places (w : WrittenRow) : Type 0 where
  low : 1 ≤ w.first
  first : w.first - 1 < 16
  two : takes_two w.kind ≡ true → 1 ≤ w.second
  other : other_of w < 16

-- those of a row of a legal list
places : (list : List ℕ) (r : ℕ) (w : WrittenRow) → r < length list / 8 → w ≡ row_at list r → (d : ℕ) × ((n : ℕ) × (n ≤ 16 × (all_legal_rows d n (list_rows list) ≡ true))) → Places w
places list r w h e (d, (n, (few, legal))) =
    let judged = legal_at d n list r w e h legal in
    let f = legal_first d n w judged in
    record {
      low = f.0;
      first = omega arith;
      two = λ e. (legal_second_lem d n w judged e).0;
      other = omega (arith, legal_other d n w judged);
    }

pub loop-r-init : goal.loop-r-init
loop-r-init c = running_start (row_at c.args.list.now)

pub overflow_sub-i : goal.overflow_sub-i
overflow_sub-i c = (places _ _ _ c.loop-r-test.true c.read_row-next.ensures c.requires.legal).low

pub other-j-requires : goal.other-j-requires
other-j-requires c = let p = places _ _ _ c.loop-r-test.true c.read_row-next.ensures c.requires.legal in (p.low, p.two)

pub bounds-last-i : goal.bounds-last-i
bounds-last-i c = (places _ _ _ c.loop-r-test.true c.read_row-next.ensures c.requires.legal).first

pub bounds-last-j : goal.bounds-last-j
bounds-last-j c = rw c.other-j.ensures (places _ _ _ c.loop-r-test.true c.read_row-next.ensures c.requires.legal).other

pub overflow_add-tick : goal.overflow_add-tick
overflow_add-tick c =
    let p = places _ _ _ c.loop-r-test.true c.read_row-next.ensures c.requires.legal in
    let low = running_low (row_at c.args.list.now) c.loop-r.r c.loop-r.invariant in
    omega (arith, c.max-tick.ensures, low.1 _ p.first, low.1 c.other-j.result (rw c.other-j.ensures p.other))

pub bounds-last-i-in-loop-r : goal.bounds-last-i-in-loop-r
bounds-last-i-in-loop-r c = (places _ _ _ c.loop-r-test.true c.read_row-next.ensures c.requires.legal).first

pub bounds-last-j-in-loop-r : goal.bounds-last-j-in-loop-r
bounds-last-j-in-loop-r c = rw c.other-j.ensures (places _ _ _ c.loop-r-test.true c.read_row-next.ensures c.requires.legal).other

pub loop-r-preserved : goal.loop-r-preserved
loop-r-preserved c =
    let w = view_row c.read_row-next.result in
    let p = places _ _ _ c.loop-r-test.true c.read_row-next.ensures c.requires.legal in
    running_next (row_at c.args.list.now) c.loop-r.r w (c.read_row-next.result.first - 1) c.other-j.result (c.max-tick.result + 1) c.max-highest.result
    c.loop-r.invariant c.read_row-next.ensures refl c.other-j.ensures p.first (rw c.other-j.ensures p.other)
    (omega (arith, c.max-tick.ensures))  -- the row's tick
    c.max-highest.ensures  -- the highest
