use Rattle.std.proofs.Common.{◌≡◌, ◌∙◌, Ok, ap, rules}
use Rattle.definitions.specs.Page.{PageAdvice}
use Rattle.store.specs.Pages.{advice_at}
use Rattle.reports.specs.Opened.{told}
use Rattle.reports.specs.Receiving.{receiving_sheet, sheet_on}
use Rattle.reports.proofs.OpenedLaws.{part_sheet, handed_on}
use Rattle.reports.proofs.receiving.receiving_list.Goals as goal

pub returns-in_err-open_advice-clause-err : goal.returns-in_err-open_advice-clause-err
returns-in_err-open_advice-clause-err c = handed_on c.from_residual.result c.in_err-open_advice.field-0.0 _ c.from_residual.ensures.1
    (λ h held. part_sheet c.args.page.now h c.args.shipment.now held
    ∙ ap (told (λ (k : PageAdvice). receiving_sheet k.shipment k.lines)) c.in_err-open_advice.ensures.err)

pub returns-clause-ok : goal.returns-clause-ok
returns-clause-ok c =
    let text : sheet_on (advice_at c.args.shipment.now c.args.page.now.advices) ≡ Ok c.in_ok-receiving_sheet.field-0.items = search rules in
    λ h held. part_sheet c.args.page.now h c.args.shipment.now held ∙ text
