use Rattle.std.proofs.Common.{List, Ok}
use Rattle.sqlite.specs.Held.{state}
use Rattle.sqlite.specs.State.{HasCleanDisk}
use Rattle.definitions.specs.Header.{Who}
use Rattle.definitions.specs.Register.{Entry}
use Rattle.book_statements.specs.Asking.{Went}
use Rattle.book_statements.specs.Exits.{StandsWhileOpen}
use Rattle.seals.specs.Noted.{noted}
use Rattle.books.proofs.SealingLemmas.{IsNoted}
use Rattle.books.proofs.sealing.seal_first.Given as goal

-- it is what is noted of the entries before this one
abbrev pub invariant-loop-before : goal.invariant-loop-before
invariant-loop-before g l = record {
  noted : HasCleanDisk (state g.S.Store l.tables.conn) → (W : Who) (L : List Entry) → StandsWhileOpen (state g.S.Store l.fn.tables.conn) W L
      → IsNoted l.before (noted l.seal) L;
  went : Went {T = Unit {0}} g.S.Store l.fn.tables l.tables (Ok tt);
}
