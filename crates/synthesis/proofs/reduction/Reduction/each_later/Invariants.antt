-- The invariant: the turns before j are done, whatever the turns are that the rows made are those of.
use Prim.Native.Nat.{ℕ, ◌+◌, ◌-◌, ◌<◌}
use Rattle.std.specs.Prelude.{Option}
use Rattle.gates.specs.declared.Row.{Row}
use Rattle.synthesis.specs.Inner.Reduce.{State}
use Rattle.synthesis.specs.Inner.Did.{Makes, Kept, Did}
use Rattle.synthesis.proofs.Progress.{up_to}
use Rattle.synthesis.proofs.reduction.Reduction.each_later.Given as goal

abbrev pub invariant-loop-j : goal.invariant-loop-j
invariant-loop-j g l = record {
  kept : Kept g.C.Columns.held (l.j - (l.q + 1)) l.initial.self l.self;
  did : (turn : ℕ → ℕ → ℕ → State → State) → ((t : _) (j : ℕ) (made : Option Row) → l.q < j → j < (g.C.Columns.held t.now).n → g.F.Fn.post l.row_of (t, (j, tt)) made → Makes (λ d n. turn d n j) (g.C.Columns.held t.now) made)
      → Did g.C.Columns.held (l.j - (l.q + 1)) (λ d n. up_to (turn d n) (l.q + 1) l.j) l.initial.self l.self;
}
