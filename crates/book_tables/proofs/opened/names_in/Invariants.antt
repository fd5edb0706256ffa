use Rattle.std.proofs.Common.{◌≡◌, ℕ, List, map, take, length}
use Rattle.std.specs.List.{AllByRecursion}
use Rattle.book_tables.specs.Opened.{IsOpen, open_shown}
use Rattle.book_tables.proofs.opened.names_in.Given as goal

abbrev pub invariant-loop-row : goal.invariant-loop-row
invariant-loop-row l = (length l.shown.items ≡ l.row-index) × AllByRecursion IsOpen (take l.row-index l.rows) × ((names : List (List ℕ)) → l.rows ≡ map open_shown names → l.shown.items ≡ take l.row-index names)
