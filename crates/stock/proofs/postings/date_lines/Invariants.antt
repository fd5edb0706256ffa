use Rattle.std.proofs.Common.{take}
use Rattle.page_rows.specs.Moved.{IsDated}
use Rattle.stock.proofs.postings.date_lines.Given as goal

abbrev pub invariant-loop-line : goal.invariant-loop-line
invariant-loop-line l = IsDated (take l.line-index l.lines) l.initial.rows.items l.rows.items
