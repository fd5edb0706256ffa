use Rattle.std.proofs.Common.{◌≡◌, ◌++◌, take, filter, flat_map}
use Rattle.reports.specs.Open.{order_headings, order_part}
use Rattle.reports.proofs.open_work.append_orders.Given as goal

-- the open orders so far
abbrev pub invariant-loop-order : goal.invariant-loop-order
invariant-loop-order l = l.out.items ≡ (l.fn.out.items ++ order_headings) ++ flat_map order_part (filter (λ k. k.is_open) (take l.order-index l.orders))
