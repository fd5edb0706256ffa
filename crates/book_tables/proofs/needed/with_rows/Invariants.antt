use Rattle.std.proofs.Common.{◌≡◌, List}
use Rattle.std.specs.Prelude.{fold}
use Rattle.definitions.specs.Rows.{LotRow}
use Rattle.rules.specs.Keyed.{put_row}
use Rattle.book_tables.proofs.needed.with_rows.Given as goal

abbrev pub invariant-loop-row : goal.invariant-loop-row
invariant-loop-row l = l.draft ≡ record l.fn.draft { rows = fold (λ (ws : List LotRow) (r : LotRow). put_row r ws) l.fn.draft.rows l.yielded }
