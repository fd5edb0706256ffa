use Rattle.std.proofs.Common.{◌≡◌, ◌+◌, drop, map}
use Rattle.std.specs.List.{enumerate_from}
use Rattle.sqlite.specs.Held.{state}
use Rattle.sqlite.specs.Effect.{Database}
use Rattle.book_statements.specs.Leading.{Leads}
use Rattle.book_statements.specs.Writing.{WroteSoFar}
use Rattle.book_statements.proofs.Lines.{advice_line_change}
use Rattle.book_statements.proofs.changing.insert_advice_lines.Given as goal

-- the lines that are left lead on from here
abbrev pub invariant-loop-line : goal.invariant-loop-line
invariant-loop-line g l = record {
  same : l.tx.conn.ghost_name ≡ l.fn.tx.conn.ghost_name;
  number : l.n ≡ l.line-index;
  wrote : WroteSoFar
      ((last : Database) → Leads (map (advice_line_change l.who l.shipment) (enumerate_from (l.line-index + 1) (drop l.line-index l.line-items))) (state g.S.Store l.tx.conn.now).now last
      → Leads (map (advice_line_change l.who l.shipment) (enumerate_from 1 l.line-items)) (state g.S.Store l.fn.tx.conn.now).now last)
      (state g.S.Store l.fn.tx.conn.now) (state g.S.Store l.tx.conn.now) l.fn.calls l.calls;
}
