use Rattle.std.proofs.Common.{◌≡◌, take}
use Rattle.stock.proofs.copies.copied_lines.Given as goal

abbrev pub invariant-loop-line : goal.invariant-loop-line
invariant-loop-line l = l.copy.items ≡ take l.line-index l.lines
