use Rattle.std.proofs.Common.{List, ◌++◌, Ok}
use Rattle.std.specs.List.Sorted.{IsPermutation}
use Rattle.sqlite.specs.Held.{state}
use Rattle.sqlite.specs.State.{HasCleanDisk}
use Rattle.definitions.specs.Header.{Who}
use Rattle.definitions.specs.Register.{Entry}
use Rattle.book_statements.specs.Asking.{Went}
use Rattle.book_tables.specs.Enrolments.{enrolments, from_text}
use Rattle.book_statements.specs.Exits.{StandsWhileOpen}
use Rattle.book_tables.proofs.connected.Tables.enrolments.Given as goal

-- all are those that were found, and those from the text on
abbrev pub invariant-loop : goal.invariant-loop
invariant-loop g l = record {
  found : HasCleanDisk (state g.S.Store l.self.conn) → (W : Who) (L : List Entry) → StandsWhileOpen (state g.S.Store l.fn.self.conn) W L
      → IsPermutation (enrolments L) (l.found.items ++ from_text l.from.items (enrolments L));
  went : Went {T = Unit {0}} g.S.Store l.fn.self l.self (Ok tt);
}
