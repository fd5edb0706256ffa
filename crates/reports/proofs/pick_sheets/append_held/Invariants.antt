use Rattle.std.proofs.Common.{◌≡◌, ◌++◌, take}
use Rattle.reports.specs.PairLines.{lines_text}
use Rattle.reports.specs.Picking.{held_of}
use Rattle.reports.proofs.pick_sheets.append_held.Given as goal

-- the reservations so far
abbrev pub invariant-loop-line : goal.invariant-loop-line
invariant-loop-line l = l.out.items ≡ l.fn.out.items ++ lines_text (held_of (take l.line-index l.reserved) l.item)
