use Rattle.std.proofs.Common.{◌≡◌, List, Ok, length}
use Rattle.sqlite.specs.Held.{state}
use Rattle.sqlite.specs.State.{HasCleanDisk}
use Rattle.definitions.specs.Register.{Entry}
use Rattle.book_statements.specs.Asking.{Went}
use Rattle.book_statements.specs.Exits.{StandsWhileOpen}
use Rattle.books.specs.Opened.{standing_of}
use Rattle.books.specs.Verified.{Follows, IsCopy}
use Rattle.books.proofs.verifying.give_all.Given as goal

-- the commands of the first entries were given to the copy
abbrev pub invariant-loop-before : goal.invariant-loop-before
invariant-loop-before g l = record {
  copy : IsCopy l.last l.fn.copy.warehouse (standing_of g.C.Store l.copy);
  follows : HasCleanDisk (state g.S.Store l.tables.conn) → (L : List Entry) → l.fn.entries ≡ length L
      → StandsWhileOpen (state g.S.Store l.fn.tables.conn) l.fn.copy.warehouse L
      → Follows l.before l.last (state g.S.Store l.tables.conn) l.fn.copy.warehouse (standing_of g.C.Store l.copy) L;
  told : goal.T-IsAlwaysCallable g l.told;
  went : Went {T = Unit {0}} g.S.Store l.fn.tables l.tables (Ok tt);
}
