use Rattle.std.proofs.Common.{◌≡◌}
use Rattle.sqlite.specs.Held.{state}
use Rattle.book_statements.specs.Writing.{WroteSoFar}
use Rattle.book_statements.proofs.Carried.{GivesSome}
use Rattle.book_statements.proofs.carrying.give_first_rules.Given as goal

-- the entries so far have their rules
abbrev pub invariant-loop-before : goal.invariant-loop-before
invariant-loop-before g l = record {
  told : goal.T-IsAlwaysCallable g l.told;
  same : l.tx.conn.ghost_name ≡ l.fn.tx.conn.ghost_name;
  wrote : WroteSoFar (GivesSome l.before (state g.S.Store l.fn.tx.conn.now).now (state g.S.Store l.tx.conn.now).now)
      (state g.S.Store l.fn.tx.conn.now) (state g.S.Store l.tx.conn.now) l.fn.calls l.calls;
}
