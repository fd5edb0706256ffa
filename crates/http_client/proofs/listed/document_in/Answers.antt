use Rattle.std.proofs.Common.{◌∙◌, sym, ap, refl, Some, None}
use Rattle.std.specs.Prelude.{option_copied, slice_get, ◌==◌}
use Rattle.std.specs.List.{slice_split}
use Rattle.std.proofs.lemmas.Str.Ascii.{trim_ascii_start_is}
use Rattle.http_client.proofs.ListLaws.{told}
use Rattle.http_client.proofs.listed.document_in.Goals as goal

pub returns-in_err-number : goal.returns-in_err-number
returns-in_err-number c =
    let text = c.trim_ascii_start-columns.result.now in
    c.from_residual.ensures ∙ told c.args.line.now text None (slice_get (slice_split (λ b. b == 32) text) 1)
    (trim_ascii_start_is c.args.line.now text c.trim_ascii_start-columns.ensures.value)
    (sym (ap option_copied c.in_err-number.was) ∙ c.part.ensures) refl

pub returns-in_err-kind : goal.returns-in_err-kind
returns-in_err-kind c =
    let text = c.trim_ascii_start-columns.result.now in
    c.from_residual-in_err-kind.ensures ∙ told c.args.line.now text (Some c.in_ok-number.number.now) None
    (trim_ascii_start_is c.args.line.now text c.trim_ascii_start-columns.ensures.value)
    (sym (ap option_copied c.in_ok-number.was) ∙ c.part.ensures)
    (sym (ap option_copied c.in_err-kind.was) ∙ c.part-2.ensures)

pub returns : goal.returns
returns c =
    let text = c.trim_ascii_start-columns.result.now in
    c.numbered_as.ensures ∙ told c.args.line.now text (Some c.in_ok-number.number.now) (Some c.in_ok-kind.kind.now)
    (trim_ascii_start_is c.args.line.now text c.trim_ascii_start-columns.ensures.value)
    (sym (ap option_copied c.in_ok-number.was) ∙ c.part.ensures)
    (sym (ap option_copied c.in_ok-kind.was) ∙ c.part-2.ensures)
