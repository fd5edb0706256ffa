use Rattle.std.proofs.Common.{◌≡◌, ◌++◌, flat_map, map, take}
use Rattle.book_tables.proofs.needed.add_sought.Given as goal

abbrev pub invariant-loop-order : goal.invariant-loop-order
invariant-loop-order l = l.items.items ≡ l.fn.items.items ++ flat_map (λ o. map (λ k. k.item) o.lines) (take l.order-index l.orders)
