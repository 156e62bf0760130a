-- `text::Buffers::convert_partner` meets its contract: 1, 2, 3 and 6 are answered, or past them the tableau of the translated rows is printed.
use Rattle.std.proofs.Common.{◌≡◌, ℕ, ◌*◌, ◌++◌, take, drop, refl, ◌∙◌}
use lib.Seq.{take_at, length-take-le}
use Rattle.std.specs.Prelude.{Ok}
use Rattle.std.proofs.lemmas.Result.{err_from_is_err_and}
use Rattle.text.proofs.Lists.{outputs_as}
use Rattle.text.proofs.PartnerLists.{partner_refused, partner_passed, partner_printed}
use Rattle.text.proofs.Buffers.convert_partner.Goals as goal

pub returns-in_err-modulus : goal.returns-in_err-modulus
returns-in_err-modulus c =
    let p = err_from_is_err_and c.from_residual.result c.from_residual.ensures.1 in
    rw (p.1, p.2) (record { output = refl; inside = tt; holds = partner_refused _ _ _ {A = ℕ} c.in_err-modulus.ensures.refusal refl refl })

pub translate-requires : goal.translate-requires
translate-requires c =
    let e = c.in_ok-modulus.ensures in
    rw e.value (c.args.rows.n, (partner_passed _ _ _ {r = Ok c.in_ok-modulus.modulus} e.refusal refl).1)

pub returns : goal.returns
returns c =
    let e = c.in_ok-modulus.ensures in
    let t = c.translate in
    let front : take (8 * c.args.rows.lines) (t.new.list ++ drop (8 * c.args.rows.lines) c.args.self.now.numbers.now) ≡ t.new.list = take_at _ _ _ (t.auto.list ∙ length-take-le _ _ c.requires) in
    outputs_as (λ o p. partner_printed _ _ _ {r = Ok c.in_ok-modulus.modulus} _ o e.refusal refl t.auto.list (rw e.value at t.ensures) p) (rw front at c.convert_list.ensures)
