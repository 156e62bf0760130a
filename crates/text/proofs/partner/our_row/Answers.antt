-- `text::partner::our_row` meets its contract: A, M and X are undone, and the other kinds stay as they are.
use Rattle.std.proofs.Common.{sym, ◌∙◌, arith, rules}
use Rattle.gates.specs.Inner.View.{view_row}
use Rattle.text.proofs.PartnerRows.{found_undone, translated_same, translated_undone}
use Rattle.text.proofs.partner.our_row.Goals as goal

pub returns-then-is_ok_and : goal.returns-then-is_ok_and
returns-then-is_ok_and c =
    let a = c.args in
    let h = c.requires in
    let found = found_undone _ _ c.try_from.ensures c.is_ok_and.ensures (λ k p. search rules) in
    c.undo.ensures ∙ sym (translated_undone a.d h.0 (view_row a.row) (omega arith) h.1 (found.0 c.if-is_ok_and.true))

pub returns : goal.returns
returns c =
    let a = c.args in
    let found = found_undone _ _ c.try_from.ensures c.is_ok_and.ensures (λ k p. search rules) in
    sym (translated_same a.d (view_row a.row) (found.1 c.if-is_ok_and.false))
