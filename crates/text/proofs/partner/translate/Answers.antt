-- `text::partner::translate` meets its contract: a row more is translated at each turn.
use Rattle.std.proofs.Common.{◌≡◌, ◌/◌, length, ap, ◌∙◌, arith}
use Rattle.gates.specs.Written.{WrittenRow, legal_row, row_at}
use Rattle.gates.proofs.Written.{all_at}
use Rattle.text.specs.Partner.{translated}
use Rattle.text.proofs.Translate.{partly_next, partly_all}
use Rattle.text.proofs.partner.translate.Goals as goal

-- the row that is read is as it was, and legal
pub our_row-row-requires : goal.our_row-row-requires
our_row-row-requires c =
    let a = c.args in
    let h = c.requires in
    let l = c.loop-r in
    (h.0, ap (legal_row a.d h.0) (c.read_row.ensures ∙ l.invariant.after l.r (omega arith)) ∙ all_at (legal_row a.d h.0) (row_at a.list.now) (length a.list.now / 8) l.r (omega arith) h.1)

pub loop-r-preserved : goal.loop-r-preserved
loop-r-preserved c =
    let a = c.args in
    let l = c.loop-r in
    let power = ap (λ (w : WrittenRow). w.power) (c.our_row-row.ensures ∙ ap (translated a.d) c.read_row.ensures) in
    partly_next a.d l.r a.list.now l.list (omega arith) l.invariant power c.put.ensures

pub returns : goal.returns
returns c =
    let a = c.args in
    let l = c.loop-r in
    let e : l.r ≡ length a.list.now / 8 = omega arith in
    partly_all a.d a.list.now l.list l.auto.list (rw e at l.invariant)
