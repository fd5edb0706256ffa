use Rattle.std.proofs.Common.{◌∙◌, map, ap}
use Rattle.definitions.specs.Page.{PageLine, PageOrder}
use Rattle.book_tables.proofs.Added.{more_added}
use Rattle.book_tables.proofs.needed.add_sought.Goals as goal

pub loop-order-preserved : goal.loop-order-preserved
loop-order-preserved c =
    more_added (λ (o : PageOrder). map (λ (l : PageLine). l.item) o.lines) _ _ _ _ c.args.orders.now c.loop-order.order-index c.order-item.result c.loop-order-test.true c.order-item.is
    c.in_ok-add_ordered.ensures (ap (map (λ (l : PageLine). l.item)) c.deref.ensures.value ∙ ap (λ (o : PageOrder). map (λ (l : PageLine). l.item) o.lines) c.order.view_is) c.loop-order.invariant
