use Rattle.std.proofs.Common.{◌≡◌, ◌∙◌, Ok, ap, rules}
use Rattle.store.specs.Pages.{order_at}
use Rattle.reports.specs.Opened.{told}
use Rattle.reports.specs.Picking.{order_sheet, listed}
use Rattle.reports.proofs.OpenedLaws.{part_list, handed_on}
use Rattle.reports.proofs.picking.pick_list.Goals as goal

pub returns-in_err-open_order-clause-err : goal.returns-in_err-open_order-clause-err
returns-in_err-open_order-clause-err c = handed_on c.from_residual.result c.in_err-open_order.field-0.0 _ c.from_residual.ensures.1
    (λ h held. part_list c.args.page.now h c.args.number.now held ∙ ap (told order_sheet) c.in_err-open_order.ensures.err)

pub returns-clause-ok : goal.returns-clause-ok
returns-clause-ok c =
    let text : listed (order_at c.args.number.now c.args.page.now.orders) ≡ Ok c.in_ok-picking_sheet.field-0.items = search rules in
    λ h held. part_list c.args.page.now h c.args.number.now held ∙ text
