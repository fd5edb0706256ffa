use Rattle.std.proofs.Common.{◌≡◌, ◌++◌, take, flat_map, codes}
use Rattle.definitions.specs.Reports.{ended}
use Rattle.reports.specs.Receiving.{receiving_line}
use Rattle.reports.proofs.receiving.receiving_sheet.Given as goal

-- the lines so far
abbrev pub invariant-loop-line : goal.invariant-loop-line
invariant-loop-line l = l.text.items ≡ ended (codes "ADVICE " ++ l.advice.shipment) ++ flat_map receiving_line (take l.line-index l.advice.lines)
