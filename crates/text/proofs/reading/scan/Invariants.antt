-- `text::reading::scan`'s loop. The invariant: the scan of the whole text is the scan of what is left, from the state and the buffer as they are.
use Rattle.std.proofs.Common.{◌≡◌, ◌+◌, drop}
use Rattle.text.specs.Inner.Scan.{Within, scanned}
use Rattle.text.proofs.reading.scan.Given as goal

abbrev pub invariant-loop-b : goal.invariant-loop-b
invariant-loop-b l = record {
  within : Within (2 + l.b-index) l.s;
  same : scanned l.initial.s l.initial.out l.rest ≡ scanned l.s l.out (drop l.b-index l.rest);
}
