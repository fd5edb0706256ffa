use Rattle.std.proofs.Common.{◌≡◌, ◌<◌, ℕ}
use Rattle.sqlite.specs.Order.{column}
use Rattle.book_tables.proofs.comparing.is_same_row.Given as goal

abbrev pub invariant-loop-at : goal.invariant-loop-at
invariant-loop-at l = (k : ℕ) → k < l.at → column l.row k ≡ column l.other k
