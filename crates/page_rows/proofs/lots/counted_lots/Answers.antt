use Rattle.std.proofs.Common.{sym, ◌∙◌, ap, arith}
use Rattle.page_rows.proofs.LotLemmas.{lots_step_yes, lots_step_no, lots_none_before, lots_none_later}
use Rattle.page_rows.proofs.lots.counted_lots.Goals as goal
use Rattle.page_rows.proofs.lots.counted_lots.Goals.{then-is_lot_of+in_ok-push, else-is_lot_of}

pub loop-i-init : goal.loop-i-init
loop-i-init c = c.new-lots.ensures.items ∙ sym (lots_none_before c.args.item.now c.args.rows.now c.item_start-i.result c.item_start-i.ensures)

pub loop-i-preserved : goal.loop-i-preserved
loop-i-preserved c = elim c.if-is_lot_of.branch [
  | then-is_lot_of+in_ok-push w ↦ lots_step_yes c.args.item.now c.args.rows.now c.loop-i.i c.index-rows-i.result c.loop-i.lots.items c.if-is_lot_of.lots.items
      (omega (arith, c.loop-i-test.true, c.item_end-i-end.ensures.bound)) c.index-rows-i.is c.loop-i.invariant (sym w.if-is_lot_of.ensures)
      (ap (λ v. v.items) w.lots-is ∙ w.in_ok-push.ensures.items)
  | else-is_lot_of w ↦ ap (λ v. v.items) w.lots-is ∙ lots_step_no c.args.item.now c.args.rows.now c.loop-i.i c.index-rows-i.result c.loop-i.lots.items
      (omega (arith, c.loop-i-test.true, c.item_end-i-end.ensures.bound)) c.index-rows-i.is c.loop-i.invariant (sym w.if-is_lot_of.ensures)
]

pub returns : goal.returns
returns c = c.loop-i.invariant
    ∙ lots_none_later c.args.item.now c.args.rows.now c.loop-i.i (λ k d le within. c.item_end-i-end.ensures.back k d (omega (arith, le, c.loop-i-test.false)) within)
