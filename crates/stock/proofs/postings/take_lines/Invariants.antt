use Rattle.std.proofs.Common.{take}
use Rattle.page_rows.specs.Moved.{IsTaken}
use Rattle.page_rows.specs.Columns.{column_of}
use Rattle.stock.proofs.postings.take_lines.Given as goal

abbrev pub invariant-loop-line : goal.invariant-loop-line
invariant-loop-line l = IsTaken (column_of l.column) (take l.line-index l.lines) l.initial.rows.items l.rows.items
