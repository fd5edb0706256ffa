use Rattle.std.proofs.Common.{◌≡◌, ◌∙◌, Ok, ap, rules}
use Rattle.definitions.specs.Page.{PageAdvice}
use Rattle.store.specs.Pages.{advice_at}
use Rattle.reports.specs.Opened.{told}
use Rattle.reports.specs.PairLines.{lines_text}
use Rattle.reports.specs.Receiving.{csv_on}
use Rattle.reports.proofs.OpenedLaws.{part_csv, handed_on}
use Rattle.reports.proofs.ReadBackLaws.{count_back}
use Rattle.reports.proofs.receiving.receiving_csv.Goals as goal

pub returns-in_err-open_advice-clause-err : goal.returns-in_err-open_advice-clause-err
returns-in_err-open_advice-clause-err c = handed_on c.from_residual.result c.in_err-open_advice.field-0.0 _ c.from_residual.ensures.1
    (λ h held. part_csv c.args.page.now h c.args.shipment.now held ∙ ap (told (λ (k : PageAdvice). lines_text k.lines)) c.in_err-open_advice.ensures.err)

pub returns-clause-ok : goal.returns-clause-ok
returns-clause-ok c =
    let text : csv_on (advice_at c.args.shipment.now c.args.page.now.advices) ≡ Ok c.in_ok-announced_csv.field-0.items = search rules in
    λ h held. part_csv c.args.page.now h c.args.shipment.now held ∙ text

pub returns-clause-back : goal.returns-clause-back
returns-clause-back c =
    let text : csv_on (advice_at c.args.shipment.now c.args.page.now.advices) ≡ Ok c.in_ok-announced_csv.field-0.items = search rules in
    count_back (advice_at c.args.shipment.now c.args.page.now.advices) c.in_ok-announced_csv.field-0.items text
