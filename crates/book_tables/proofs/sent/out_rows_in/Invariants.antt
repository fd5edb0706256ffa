use Rattle.std.proofs.Common.{◌≡◌, List, map, take, filter, length}
use Rattle.std.specs.Prelude.{nat_lt}
use Rattle.std.specs.List.{AllByRecursion}
use Rattle.sqlite_rules.specs.Lists.{Has}
use Rattle.definitions.specs.Rows.{OutRow}
use Rattle.book_tables.specs.Showing.{out_shown, IsOut, IsSent}
use Rattle.book_tables.proofs.sent.out_rows_in.Given as goal

abbrev pub invariant-loop-row : goal.invariant-loop-row
invariant-loop-row l = AllByRecursion IsOut (take l.row-index l.rows) × ((rs : List OutRow) → ((r : OutRow) → Has rs r → IsSent r) → l.rows ≡ map out_shown rs → l.shown.items ≡ filter (λ (r : OutRow). nat_lt 0 (length r.content)) (take l.row-index rs))
