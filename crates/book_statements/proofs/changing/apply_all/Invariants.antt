use Rattle.std.proofs.Common.{◌≡◌, drop, flat_map}
use Rattle.sqlite.specs.Held.{state}
use Rattle.sqlite.specs.Effect.{Database}
use Rattle.definitions.specs.Header.{Who, who_text}
use Rattle.rules.specs.Tabled.{table_changes, table_changes_of}
use Rattle.book_statements.specs.Leading.{Leads}
use Rattle.book_statements.specs.Writing.{WroteSoFar}
use Rattle.book_statements.proofs.changing.apply_all.Given as goal

-- the changes that are left lead on from here
abbrev pub invariant-loop-change : goal.invariant-loop-change
invariant-loop-change g l = record {
  same : l.tx.conn.ghost_name ≡ l.fn.tx.conn.ghost_name;
  wrote : WroteSoFar
      ((w : Who) → l.who ≡ who_text w → (last : Database)
      → Leads (flat_map (table_changes_of w) (drop l.change-index l.changes)) (state g.S.Store l.tx.conn.now).now last
      → Leads (table_changes w l.changes) (state g.S.Store l.fn.tx.conn.now).now last)
      (state g.S.Store l.fn.tx.conn.now) (state g.S.Store l.tx.conn.now) l.fn.calls l.calls;
}
