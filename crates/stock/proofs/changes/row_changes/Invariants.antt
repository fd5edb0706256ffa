use Rattle.std.proofs.Common.{◌≡◌, take, map}
use Rattle.page_rows.specs.OfPairs.{changed_rows}
use Rattle.stock.specs.declared.steps.Change.TheVariants.{Stock}
use Rattle.stock.proofs.changes.row_changes.Given as goal

abbrev pub invariant-loop-row : goal.invariant-loop-row
invariant-loop-row l = l.changes.items ≡ map Stock (changed_rows l.rows (take l.row-index l.touched))
