use Rattle.std.proofs.Common.{◌≡◌, map, take}
use Rattle.rules.specs.Documents.{adjusted_from}
use Rattle.rules.proofs.documents.adjustments.adjusted.Given as goal

abbrev pub invariant-loop-line : goal.invariant-loop-line
invariant-loop-line l = l.lines.items ≡ map (adjusted_from l.page) (take l.line-index l.sheet)
