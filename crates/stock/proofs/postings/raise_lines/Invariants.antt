use Rattle.std.proofs.Common.{take}
use Rattle.page_rows.specs.Moved.{IsRaised}
use Rattle.page_rows.specs.Columns.{column_of}
use Rattle.stock.proofs.postings.raise_lines.Given as goal

abbrev pub invariant-loop-line : goal.invariant-loop-line
invariant-loop-line l = IsRaised (column_of l.column) (take l.line-index l.lines) l.initial.rows.items l.rows.items
