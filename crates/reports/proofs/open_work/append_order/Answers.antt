use Rattle.std.proofs.Common.{◌≡◌, ◌++◌, ◌∙◌, take, flat_map, ap}
use Rattle.definitions.specs.Page.{PageOrder}
use Rattle.reports.specs.Open.{order_line, short_part}
use Rattle.reports.proofs.MoreLaws.{one_more}
use Rattle.reports.proofs.open_work.append_order.Goals as goal

pub loop-line-preserved : goal.loop-line-preserved
loop-line-preserved c =
    let order = c.args.order.now in
    let before = c.args.out.now.items ++ order_line order in
    let reserved : c.deref.result.now ≡ order.reserved = c.deref.ensures.value ∙ ap (λ (k : PageOrder). k.reserved) c.order.view_is in
    let lines : c.deref-line-items.result.now ≡ order.lines = c.deref-line-items.ensures.value ∙ ap (λ (k : PageOrder). k.lines) c.order.view_is in
    let text : c.append_short_part.new.out.items ≡ (before ++ flat_map (short_part order.reserved) (take c.loop-line.line-index order.lines)) ++ short_part order.reserved c.line-item.result =
    cc (c.in_ok-append_short_part.ensures, c.loop-line.invariant, reserved) in
    text
    ∙ one_more (short_part order.reserved) before order.lines c.loop-line.line-index c.line-item.result
    (rw lines at c.loop-line-test.true) (rw lines at c.line-item.is)
