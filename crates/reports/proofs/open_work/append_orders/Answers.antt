use Rattle.std.proofs.Common.{◌++◌, List, ℕ, Vec, Global, ap, sym, ◌∙◌, arith}
use Rattle.definitions.specs.Page.{PageOrder}
use Rattle.reports.specs.Open.{order_headings, order_part}
use Rattle.reports.proofs.MoreLaws.{one_passes, one_fails}
use Rattle.reports.proofs.OpenLaws.{all_after}
use Rattle.reports.proofs.open_work.append_orders.Goals as goal
use Rattle.reports.proofs.open_work.append_orders.Goals.{then-order+in_ok-append_order, else-order}

pub returns : goal.returns
returns c = c.loop-order.invariant ∙ all_after order_part (λ k. k.is_open) c.args.out.now.items order_headings c.args.orders.now c.loop-order.order-index (omega arith)

pub loop-order-preserved : goal.loop-order-preserved
loop-order-preserved c =
    let before = c.args.out.now.items ++ order_headings in
    let order = c.order-item.result in
    let is_open = sym (ap (λ (k : PageOrder). k.is_open) c.order.view_is) in
    elim c.if-order.branch [
      | then-order+in_ok-append_order w ↦
          ap (λ (out : Vec ℕ Global). out.items) w.out-is
          ∙ (w.in_ok-append_order.ensures
          ∙ ap (λ (text : List ℕ). text ++ order_part order) c.loop-order.invariant
          ∙ one_passes order_part (λ k. k.is_open) before c.args.orders.now c.loop-order.order-index order
          c.loop-order-test.true c.order-item.is (is_open ∙ w.if-order.true))
      | else-order w ↦
          ap (λ (out : Vec ℕ Global). out.items) w.out-is
          ∙ (c.loop-order.invariant
          ∙ one_fails order_part (λ k. k.is_open) before c.args.orders.now c.loop-order.order-index order
          c.loop-order-test.true c.order-item.is (is_open ∙ w.if-order.false))
    ]
