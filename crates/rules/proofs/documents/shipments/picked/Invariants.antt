use Rattle.std.proofs.Common.{◌≡◌, map, take}
use Rattle.rules.specs.Documents.{picked_lot}
use Rattle.rules.proofs.documents.shipments.picked.Given as goal

abbrev pub invariant-loop-line : goal.invariant-loop-line
invariant-loop-line l = l.lots.items ≡ map picked_lot (take l.line-index l.lines)
