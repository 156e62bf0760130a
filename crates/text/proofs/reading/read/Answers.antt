-- `text::reading::read` meets its contract. From the scan of the text (`reads_opened`); a text of fewer than two bytes is no file's (`short`).
use Rattle.std.proofs.Common.{◌≤◌, length, sym, ◌∙◌, arith}
use Rattle.text.proofs.Answers.{reads_unopened, reads_opened, short}
use Rattle.text.proofs.reading.read.Goals as goal

pub returns-in_default : goal.returns-in_default
returns-in_default c = short _ c.in_default.len_below

pub returns-in_err-form : goal.returns-in_err-form
returns-in_err-form c =
    let few : length c.args.text.now ≤ 65536 = omega arith in
    rw c.from_residual.ensures (reads_unopened _ c.args.out.now (omega arith) few (c.requires few) (sym c.opening.ensures ∙ c.in_err-form.was))

pub returns-in_err-scan : goal.returns-in_err-scan
returns-in_err-scan c =
    let few : length c.args.text.now ≤ 65536 = omega arith in
    rw c.from_residual-in_err-scan.ensures
    (rw (c.in_err-scan.was) at (reads_opened c.args.text.now c.args.out.now (omega arith) few (c.requires few) (sym c.opening.ensures ∙ c.in_ok-form.was) c.scan.ensures))

pub returns-in_err-found : goal.returns-in_err-found
returns-in_err-found c =
    let few : length c.args.text.now ≤ 65536 = omega arith in
    rw c.from_residual-in_err-found.ensures
    (rw (c.in_ok-scan.was, sym c.contents.ensures ∙ c.in_err-found.was) at (reads_opened c.args.text.now c.args.out.now (omega arith) few (c.requires few) (sym c.opening.ensures ∙ c.in_ok-form.was) c.scan.ensures))

pub returns : goal.returns
returns c =
    let few : length c.args.text.now ≤ 65536 = omega arith in
    rw c.named.ensures
    (rw (c.in_ok-scan.was, sym c.contents.ensures ∙ c.in_ok-found.was) at (reads_opened c.args.text.now c.args.out.now (omega arith) few (c.requires few) (sym c.opening.ensures ∙ c.in_ok-form.was) c.scan.ensures))
