use Rattle.std.proofs.Common.{◌≡◌, take, false}
use Rattle.std.specs.List.{list_any}
use Rattle.page_rows.specs.Steps.{exceeds}
use Rattle.page_rows.proofs.lines.exceeds.Given as goal

abbrev pub invariant-loop-line : goal.invariant-loop-line
invariant-loop-line l = list_any (exceeds l.reserved) (take l.line-index l.lines) ≡ false
