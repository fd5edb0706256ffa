use Rattle.std.proofs.Common.{◌≡◌, map, take}
use Rattle.definitions.specs.Rows.{shown_row}
use Rattle.store.proofs.rows.StockRow.of_each.Given as goal

abbrev pub invariant-loop-row : goal.invariant-loop-row
invariant-loop-row l = l.shown.items ≡ map shown_row (take l.row-index l.rows)
