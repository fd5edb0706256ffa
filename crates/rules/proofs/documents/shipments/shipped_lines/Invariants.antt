use Rattle.std.proofs.Common.{◌≡◌, map, take}
use Rattle.rules.specs.Documents.{shipped_of}
use Rattle.rules.proofs.documents.shipments.shipped_lines.Given as goal

abbrev pub invariant-loop-line : goal.invariant-loop-line
invariant-loop-line l = l.shipment.items ≡ map (shipped_of l.sheet) (take l.line-index l.lines)
