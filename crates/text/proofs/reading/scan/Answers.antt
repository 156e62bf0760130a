-- `text::reading::scan` meets its contract: one byte more at each turn, no byte left at the end, and None where a byte breaks the layout.
use Rattle.std.proofs.Common.{get_or, ◌≡◌, ◌+◌, List, [], ℕ, drop, ap, arith, sym, ◌∙◌}
use lib.ListN.{drop_of_length-le}
use Rattle.text.specs.Inner.Scan.{scanned}
use Rattle.text.specs.declared.reading.State.{State}
use Rattle.text.proofs.AfterByte.{scanned_none, scanned_more, scanned_stop, within_byte}
use Rattle.text.proofs.reading.scan.Goals as goal

pub returns-in_err-s : goal.returns-in_err-s
returns-in_err-s c =
    let l = c.loop-b in
    let rest = c.args.rest.now in
    rw c.from_residual.ensures (sym (ap (λ (s : State). scanned s c.args.out.now rest) (sym c.start-s.ensures) ∙ l.invariant.same
    ∙ scanned_stop l.s l.out rest l.b-index (omega arith) (sym c.in_err-s.ensures.0)))

pub loop-b-preserved : goal.loop-b-preserved
loop-b-preserved c =
    let l = c.loop-b in
    let e = c.in_ok-s.ensures in
    let w = rw (← e.0) at (within_byte (2 + l.b-index) l.s (get_or c.args.rest.now l.b-index 0) l.invariant.within) in record {
      within = omega arith;
      same = l.invariant.same ∙ scanned_more l.s c.in_ok-s.s l.out c.args.rest.now l.b-index (omega arith) (sym e.0)
          ∙ ap (λ (o : List ℕ). scanned c.in_ok-s.s o (drop (l.b-index + 1) c.args.rest.now)) (sym e.1);
    }

pub returns : goal.returns
returns c =
    let l = c.loop-b in
    let rest = c.args.rest.now in
    let e : drop l.b-index rest ≡ [] = drop_of_length-le rest {i = l.b-index} (omega arith) in
    sym (ap (λ (s : State). scanned s c.args.out.now rest) (sym c.start-s.ensures) ∙ l.invariant.same ∙ ap (λ (z : List ℕ). scanned l.s l.out z) e ∙ scanned_none l.s l.out)
