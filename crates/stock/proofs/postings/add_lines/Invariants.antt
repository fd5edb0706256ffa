use Rattle.std.proofs.Common.{take}
use Rattle.page_rows.specs.Moved.{IsAdded}
use Rattle.page_rows.specs.Columns.{column_of}
use Rattle.stock.proofs.postings.add_lines.Given as goal

abbrev pub invariant-loop-line : goal.invariant-loop-line
invariant-loop-line l = IsAdded (column_of l.column) (take l.line-index l.lines) l.initial.rows.items l.rows.items
