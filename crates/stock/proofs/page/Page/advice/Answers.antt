use Rattle.std.proofs.Common.{◌∙◌, ap, sym}
use Rattle.page_rows.specs.Pages.{PageFacts, advice_at, is_shipment}
use Rattle.page_rows.proofs.Finds.{find_at}
use Rattle.stock.proofs.page.Page.advice.Goals as goal

pub returns-in-Ok : goal.returns-in-Ok
returns-in-Ok c =
    ap (λ (p : PageFacts). advice_at c.args.shipment.now p.advices) (sym c.self.view_is)
    ∙ find_at (is_shipment c.args.shipment.now) c.self.inside.facts.advices.items c.in-Ok.i c.index.result.now (rw c.deref.ensures.value at c.in-Ok.ensures) c.index.ensures

pub returns-in-Err : goal.returns-in-Err
returns-in-Err c =
    ap (λ (p : PageFacts). advice_at c.args.shipment.now p.advices) (sym c.self.view_is)
    ∙ (rw c.deref.ensures.value at c.in-Err.ensures).0
