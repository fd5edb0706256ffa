use Rattle.std.proofs.Common.{◌≡◌, ◌++◌, take, flat_map}
use Rattle.reports.specs.Open.{order_line, short_part}
use Rattle.reports.proofs.open_work.append_order.Given as goal

-- the lines so far
abbrev pub invariant-loop-line : goal.invariant-loop-line
invariant-loop-line l = l.out.items ≡ (l.fn.out.items ++ order_line l.order) ++ flat_map (short_part l.order.reserved) (take l.line-index l.order.lines)
