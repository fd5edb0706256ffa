use Rattle.std.proofs.Common.{◌≡◌, map, take}
use Rattle.rules.specs.Documents.{received_line}
use Rattle.rules.proofs.documents.receipts.received.Given as goal

abbrev pub invariant-loop-pair : goal.invariant-loop-pair
invariant-loop-pair l = l.lines.items ≡ map (received_line l.sheet) (take l.pair-index l.pairs)
