use Rattle.std.proofs.Common.{take}
use Rattle.page_rows.specs.Moved.{IsMarked}
use Rattle.stock.proofs.postings.mark_lines.Given as goal

abbrev pub invariant-loop-line : goal.invariant-loop-line
invariant-loop-line l = IsMarked l.n (take l.line-index l.lines) l.initial.rows.items l.rows.items
