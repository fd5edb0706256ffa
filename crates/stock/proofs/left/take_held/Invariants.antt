use Rattle.std.proofs.Common.{take, true}
use Rattle.stock.specs.Left.{IsLess}
use Rattle.page_rows.specs.Pages.{held}
use Rattle.stock.proofs.left.take_held.Given as goal

-- what the orders so far hold was taken
abbrev pub invariant-loop-order : goal.invariant-loop-order
invariant-loop-order l = IsLess l.rows (held (take l.order-index l.orders)) l.initial.left.items l.left.items true
