use Rattle.std.proofs.Common.{◌≡◌, drop, map}
use Rattle.sqlite.specs.Held.{state}
use Rattle.sqlite.specs.Effect.{Database}
use Rattle.book_statements.specs.Leading.{Leads}
use Rattle.book_statements.specs.Writing.{WroteSoFar}
use Rattle.book_statements.proofs.Lines.{reservation_change}
use Rattle.book_statements.proofs.changing.insert_reservations.Given as goal

-- the lines that are left lead on from here
abbrev pub invariant-loop-line : goal.invariant-loop-line
invariant-loop-line g l = record {
  same : l.tx.conn.ghost_name ≡ l.fn.tx.conn.ghost_name;
  wrote : WroteSoFar
      ((last : Database) → Leads (map (reservation_change l.who l.number) (drop l.line-index l.line-items)) (state g.S.Store l.tx.conn.now).now last
      → Leads (map (reservation_change l.who l.number) l.line-items) (state g.S.Store l.fn.tx.conn.now).now last)
      (state g.S.Store l.fn.tx.conn.now) (state g.S.Store l.tx.conn.now) l.fn.calls l.calls;
}
