use Rattle.std.proofs.Common.{◌≡◌, ◌++◌, take, flat_map, codes}
use Rattle.std.specs.Prelude.{option_to_list}
use Rattle.definitions.specs.Reports.{ended, address_lines}
use Rattle.reports.specs.Picking.{order_lines}
use Rattle.reports.proofs.picking.picking_sheet.Given as goal

-- the lines so far
abbrev pub invariant-loop-line : goal.invariant-loop-line
invariant-loop-line l =
    l.text.items ≡ (ended (codes "ORDER " ++ l.order.number) ++ flat_map address_lines (option_to_list l.order.address)) ++ flat_map (order_lines l.order.reserved) (take l.line-index l.order.lines)
