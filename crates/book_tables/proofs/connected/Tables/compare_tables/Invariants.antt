use Rattle.book_tables.proofs.ComparedSoFar.{SoFar}
use Rattle.book_tables.proofs.connected.Tables.compare_tables.Given as goal

abbrev pub invariant-loop-table : goal.invariant-loop-table
invariant-loop-table g l = SoFar g.S.Store g.T.Store l.initial.self l.self l.initial.other l.other l.table-index
