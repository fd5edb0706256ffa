use Rattle.std.proofs.Common.{◌≡◌, List, map, take, true, length}
use Rattle.std.specs.List.{list_all}
use Rattle.definitions.specs.Rules.{Today}
use Rattle.definitions.specs.Page.{PageLine}
use Rattle.rules.specs.Fitting.{is_fitting_ordered}
use Rattle.book_tables.specs.Showing.{order_line_shown}
use Rattle.book_tables.proofs.orders.order_lines_in.Given as goal

abbrev pub invariant-loop-row : goal.invariant-loop-row
invariant-loop-row l = (length l.shown.items ≡ l.row-index) × ((rs : List PageLine) → list_all (is_fitting_ordered Today) rs ≡ true → l.rows ≡ map order_line_shown rs → l.shown.items ≡ take l.row-index rs)
