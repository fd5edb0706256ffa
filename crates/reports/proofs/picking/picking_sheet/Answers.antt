use Rattle.std.proofs.Common.{◌≡◌, ◌++◌, ◌∙◌, take, flat_map, codes, ap}
use Rattle.std.specs.Prelude.{option_to_list}
use Rattle.definitions.specs.Page.{PageOrder}
use Rattle.definitions.specs.Reports.{ended, address_lines}
use Rattle.reports.specs.Picking.{order_lines}
use Rattle.reports.proofs.MoreLaws.{one_more}
use Rattle.reports.proofs.picking.picking_sheet.Goals as goal

pub loop-line-preserved : goal.loop-line-preserved
loop-line-preserved c =
    let order = c.args.order.now in
    let before = ended (codes "ORDER " ++ order.number) ++ flat_map address_lines (option_to_list order.address) in
    let reserved : c.deref-in-loop-line.result.now ≡ order.reserved = c.deref-in-loop-line.ensures.value ∙ ap (λ (k : PageOrder). k.reserved) c.order.view_is in
    let lines : c.deref-line-items.result.now ≡ order.lines = c.deref-line-items.ensures.value ∙ ap (λ (k : PageOrder). k.lines) c.order.view_is in
    let text : c.append_order_line.new.out.items ≡ (before ++ flat_map (order_lines order.reserved) (take c.loop-line.line-index order.lines)) ++ order_lines order.reserved c.line-item.result =
    cc (c.in_ok-append_order_line.ensures, c.loop-line.invariant, reserved) in
    text
    ∙ one_more (order_lines order.reserved) before order.lines c.loop-line.line-index c.line-item.result
    (rw lines at c.loop-line-test.true) (rw lines at c.line-item.is)
