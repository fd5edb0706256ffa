use Rattle.std.proofs.Common.{map, take, Some, ap, sym, ◌∙◌, subst}
use Rattle.std.specs.Prelude.{option_map}
use Rattle.definitions.specs.Means.{Line, OrderLine}
use Rattle.definitions.specs.Events.{same_order_item}
use Rattle.page_rows.specs.Moved.{IsPlaced}
use Rattle.stock.proofs.Repeats.{item_line, items_alike, stood_again, stood_more}
use Rattle.stock.proofs.faults.repeated_item.Goals as goal

pub returns-then-is_among : goal.returns-then-is_among
returns-then-is_among c =
    let before = map item_line (take c.loop-line.line-index c.args.lines.now) in
    let said = rw (c.deref-in-loop-line.ensures.value, ap (λ (l : OrderLine). l.item) c.line.view_is) at
    (c.is_among.ensures before (rw c.deref.ensures.value c.loop-line.invariant.are)) in
    let again = stood_again same_order_item item_line c.args.lines.now c.loop-line.line-index c.line-item.result c.loop-line.seen.items
    items_alike c.loop-line-test.true c.line-item.is c.loop-line.invariant (sym said ∙ c.if-is_among.true) in
    ap (λ (l : OrderLine). Some l.position) c.line.view_is ∙ sym (ap (option_map (λ (l : OrderLine). l.position)) again)

pub loop-line-preserved : goal.loop-line-preserved
loop-line-preserved c =
    let before = map item_line (take c.loop-line.line-index c.args.lines.now) in
    let said = rw (c.deref-in-loop-line.ensures.value, ap (λ (l : OrderLine). l.item) c.line.view_is) at
    (c.is_among.ensures before (rw c.deref.ensures.value c.loop-line.invariant.are)) in
    let placed = subst (λ (x : Line). IsPlaced c.loop-line.seen.items c.placed-in-loop-line.new.rows.items x c.in_ok-placed.field-0)
    (rw (c.deref-in-loop-line-2.ensures.value, ap (λ (l : OrderLine). l.item) c.line.view_is) at c.in_ok-new_line.ensures) c.in_ok-placed.ensures in
    stood_more same_order_item item_line c.args.lines.now c.loop-line.line-index c.line-item.result c.loop-line.seen.items
    c.placed-in-loop-line.new.rows.items c.in_ok-placed.field-0 items_alike c.loop-line-test.true c.line-item.is c.loop-line.invariant
    (sym said ∙ c.if-is_among.false) placed

pub is_among-requires : goal.is_among-requires
is_among-requires c = rw c.deref.ensures.value c.loop-line.invariant.sorted

pub placed-requires : goal.placed-requires
placed-requires c = c.loop-line.invariant.sorted
