use Rattle.std.proofs.Common.{◌≡◌, List, map, take, drop, true, length}
use Rattle.std.specs.List.{list_all}
use Rattle.definitions.specs.Rows.{LotRow}
use Rattle.rules.specs.Keyed.{key_before, rises_by, row_key}
use Rattle.rules.specs.Fitting.{is_fitting_row}
use Rattle.book_statements.specs.Dated.{date_shown, dates_of}
use Rattle.book_tables.specs.Showing.{lot_shown}
use Rattle.book_tables.proofs.lots.lots_in.Given as goal

abbrev pub invariant-loop-row : goal.invariant-loop-row
invariant-loop-row l = (length l.shown.items ≡ l.row-index) × ((rs : List LotRow) → list_all is_fitting_row rs ≡ true → rises_by key_before row_key rs ≡ true → l.rows ≡ map lot_shown rs → l.dates ≡ map date_shown (dates_of rs)
    → (l.shown.items ≡ take l.row-index rs) × (l.left ≡ map date_shown (dates_of (drop l.row-index rs))))
