use Rattle.std.proofs.Common.{◌≡◌, take, map}
use Rattle.page_rows.specs.Columns.{column_of}
use Rattle.page_rows.specs.OfPairs.{amount}
use Rattle.stock.proofs.left.amounts.Given as goal

-- the amounts of the rows so far
abbrev pub invariant-loop-row : goal.invariant-loop-row
invariant-loop-row l = l.left.items ≡ map (amount (column_of l.column)) (take l.row-index l.rows)
