use Rattle.std.proofs.Common.{ap, sym, ◌∙◌, List, subst, true}
use Rattle.definitions.specs.Page.{PageOrder}
use Rattle.stock.proofs.Lefts.{open_end, open_more, open_none}
use Rattle.std.proofs.lemmas.List.{take_all}
use Rattle.stock.specs.Left.{IsLess}
use Rattle.page_rows.specs.Pages.{held}
use Rattle.stock.proofs.left.take_held.Goals as goal
use Rattle.stock.proofs.left.take_held.Goals.{else-order-via-then-order+else-not-take_lines, else-order-via-else-order}

pub returns-then-not-take_lines : goal.returns-then-not-take_lines
returns-then-not-take_lines c =
    open_end (λ (k : PageOrder). k.is_open) (λ k. k.reserved) c.args.rows.now c.args.orders.now c.loop-order.order-index c.order-item.result _ _ _
    c.loop-order-test.true c.order-item.is (sym (ap (λ (k : PageOrder). k.is_open) c.order.view_is) ∙ c.if-order.true) c.loop-order.invariant
    (rw (c.deref.ensures.value, ap (λ (k : PageOrder). k.reserved) c.order.view_is) at c.if-not-take_lines.ensures)

pub loop-order-preserved : goal.loop-order-preserved
loop-order-preserved c = elim c.else-order.branch [
  | else-order-via-then-order+else-not-take_lines w ↦
      rw w.left-is (open_more (λ (k : PageOrder). k.is_open) (λ k. k.reserved) c.args.rows.now c.args.orders.now c.loop-order.order-index c.order-item.result _ _ _
      c.loop-order-test.true c.order-item.is (sym (ap (λ (k : PageOrder). k.is_open) c.order.view_is) ∙ w.if-order.true) c.loop-order.invariant
      (rw (w.deref.ensures.value, ap (λ (k : PageOrder). k.reserved) c.order.view_is) at w.if-not-take_lines.ensures))
  | else-order-via-else-order w ↦
      rw w.left-is (open_none (λ (k : PageOrder). k.is_open) (λ k. k.reserved) c.args.rows.now c.args.orders.now c.loop-order.order-index c.order-item.result _ _
      c.loop-order-test.true c.order-item.is (sym (ap (λ (k : PageOrder). k.is_open) c.order.view_is) ∙ w.if-order.false) c.loop-order.invariant)
]

pub returns : goal.returns
returns c = subst (λ (ks : List PageOrder). IsLess c.args.rows.now (held ks) c.args.left.now.items c.loop-order.left.items true)
    (take_all c.loop-order.order-index c.args.orders.now c.loop-order-test.false) c.loop-order.invariant
