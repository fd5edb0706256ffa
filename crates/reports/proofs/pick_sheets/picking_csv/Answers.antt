use Rattle.std.proofs.Common.{◌≡◌, ◌∙◌, Ok, ap, rules}
use Rattle.definitions.specs.Page.{PageOrder}
use Rattle.store.specs.Pages.{order_at}
use Rattle.reports.specs.Opened.{told}
use Rattle.reports.specs.PairLines.{lines_text}
use Rattle.reports.specs.PickSheets.{held_pairs, csv_on}
use Rattle.reports.proofs.OpenedLaws.{part_picks, page_taken, handed_on}
use Rattle.reports.proofs.ReadBackLaws.{pick_back}
use Rattle.reports.proofs.pick_sheets.picking_csv.Goals as goal

pub returns-in_err-open_order-clause-err : goal.returns-in_err-open_order-clause-err
returns-in_err-open_order-clause-err c = handed_on c.from_residual.result c.in_err-open_order.field-0.0 _ c.from_residual.ensures.1
    (λ h held. part_picks c.args.page.now h c.args.number.now held ∙ ap (told (λ (k : PageOrder). lines_text (held_pairs k))) c.in_err-open_order.ensures.err)

pub returns-clause-ok : goal.returns-clause-ok
returns-clause-ok c =
    let text : csv_on (order_at c.args.number.now c.args.page.now.orders) ≡ Ok c.in_ok-reserved_csv.field-0.items = search rules in
    λ h held. part_picks c.args.page.now h c.args.number.now held ∙ text

pub returns-clause-back : goal.returns-clause-back
returns-clause-back c =
    let text : csv_on (order_at c.args.number.now c.args.page.now.orders) ≡ Ok c.in_ok-reserved_csv.field-0.items = search rules in
    pick_back (order_at c.args.number.now c.args.page.now.orders) c.in_ok-reserved_csv.field-0.items text

pub returns-clause-taken : goal.returns-clause-taken
returns-clause-taken c =
    let text : csv_on (order_at c.args.number.now c.args.page.now.orders) ≡ Ok c.in_ok-reserved_csv.field-0.items = search rules in
    λ h. page_taken c.args.page.now h c.args.number.now c.in_ok-reserved_csv.field-0.items text
