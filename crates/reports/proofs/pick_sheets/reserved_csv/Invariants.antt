use Rattle.std.proofs.Common.{◌≡◌, take, flat_map}
use Rattle.reports.specs.PairLines.{lines_text}
use Rattle.reports.specs.Picking.{held_of}
use Rattle.reports.proofs.pick_sheets.reserved_csv.Given as goal

-- the reservations of the lines so far
abbrev pub invariant-loop-line : goal.invariant-loop-line
invariant-loop-line l = l.text.items ≡ lines_text (flat_map (λ m. held_of l.order.reserved m.item) (take l.line-index l.order.lines))
