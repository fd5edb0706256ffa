use Rattle.std.proofs.Common.{◌≡◌, ◌++◌, take}
use Rattle.reports.specs.Picking.{held_of, held_lines}
use Rattle.reports.proofs.picking.append_held.Given as goal

-- the reservations so far
abbrev pub invariant-loop-line : goal.invariant-loop-line
invariant-loop-line l = l.out.items ≡ l.fn.out.items ++ held_lines (held_of (take l.line-index l.reserved) l.item)
