use Rattle.definitions.specs.Events.{same_order_item}
use Rattle.stock.proofs.Repeats.{HaveStood, item_line}
use Rattle.stock.proofs.faults.repeated_item.Given as goal

abbrev pub invariant-loop-line : goal.invariant-loop-line
invariant-loop-line l = HaveStood same_order_item item_line l.lines l.line-index l.seen.items
