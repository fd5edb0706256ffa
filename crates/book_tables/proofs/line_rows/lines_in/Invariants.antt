use Rattle.std.proofs.Common.{◌≡◌, List, map, take, true, length}
use Rattle.std.specs.List.{list_all}
use Rattle.definitions.specs.Rules.{Today}
use Rattle.definitions.specs.Means.{Line}
use Rattle.rules.specs.Fitting.{is_fitting_line}
use Rattle.book_tables.specs.Showing.{line_shown}
use Rattle.book_tables.proofs.line_rows.lines_in.Given as goal

abbrev pub invariant-loop-row : goal.invariant-loop-row
invariant-loop-row l = (length l.shown.items ≡ l.row-index) × ((rs : List Line) → list_all (is_fitting_line Today) rs ≡ true → l.rows ≡ map line_shown rs → l.shown.items ≡ take l.row-index rs)
