use Rattle.std.proofs.Common.{◌≡◌, ◌+◌, take}
use Rattle.page_rows.specs.Pages.{held}
use Rattle.stock.proofs.sound.holds_at_most.Given as goal

-- what is left, and what the orders so far hold
abbrev pub invariant-loop-order : goal.invariant-loop-order
invariant-loop-order l = l.left + held (take l.order-index l.orders) l.fn.item l.fn.lot ≡ l.fn.most
