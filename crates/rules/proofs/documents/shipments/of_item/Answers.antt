use Rattle.std.proofs.Common.{sym, arith}
use Rattle.rules.proofs.ItemLines.{item_within, item_lines}
use Rattle.rules.proofs.documents.shipments.of_item.Goals as goal

pub slice_bounds-result-count : goal.slice_bounds-result-count
slice_bounds-result-count c = omega (arith, item_within c.args.sheet.now c.args.item.now c.item_start-start.result c.item_end-end.result c.item_start-start.ensures c.item_end-end.ensures)

pub slice_bounds-result-start : goal.slice_bounds-result-start
slice_bounds-result-start c = item_within c.args.sheet.now c.args.item.now c.item_start-start.result c.item_end-end.result c.item_start-start.ensures c.item_end-end.ensures

pub returns : goal.returns
returns c = sym (item_lines c.args.sheet.now c.args.item.now c.item_start-start.result c.item_end-end.result c.item_start-start.ensures c.item_end-end.ensures)
