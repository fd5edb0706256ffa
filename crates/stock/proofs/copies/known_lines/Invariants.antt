use Rattle.std.proofs.Common.{◌≡◌, take, map}
use Rattle.definitions.specs.Page.{page_line}
use Rattle.stock.proofs.copies.known_lines.Given as goal

abbrev pub invariant-loop-line : goal.invariant-loop-line
invariant-loop-line l = l.known.items ≡ map page_line (take l.line-index l.lines)
