use Rattle.std.proofs.Common.{◌∙◌, ap, sym}
use Rattle.page_rows.specs.Pages.{PageFacts, order_at, is_number}
use Rattle.page_rows.proofs.Finds.{find_at}
use Rattle.stock.proofs.page.Page.order.Goals as goal

pub returns-in-Ok : goal.returns-in-Ok
returns-in-Ok c =
    ap (λ (p : PageFacts). order_at c.args.number.now p.orders) (sym c.self.view_is)
    ∙ find_at (is_number c.args.number.now) c.self.inside.facts.orders.items c.in-Ok.i c.index.result.now (rw c.deref.ensures.value at c.in-Ok.ensures) c.index.ensures

pub returns-in-Err : goal.returns-in-Err
returns-in-Err c =
    ap (λ (p : PageFacts). order_at c.args.number.now p.orders) (sym c.self.view_is)
    ∙ (rw c.deref.ensures.value at c.in-Err.ensures).0
