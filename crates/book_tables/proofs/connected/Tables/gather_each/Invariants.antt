use Rattle.std.proofs.Common.{◌≡◌, List, Ok, map, take}
use Rattle.sqlite.specs.Held.{state}
use Rattle.sqlite.specs.State.{HasCleanDisk}
use Rattle.definitions.specs.Header.{Who}
use Rattle.definitions.specs.Register.{Entry}
use Rattle.rules.specs.Parts.{Named}
use Rattle.book_statements.specs.Asking.{Went}
use Rattle.book_statements.specs.Exits.{StandsWhileOpen}
use Rattle.book_tables.specs.Needed.{part_for, with_texts}
use Rattle.book_tables.proofs.connected.Tables.gather_each.Given as goal

-- what the front of the list says has come to the draft
abbrev pub invariant-loop-text : goal.invariant-loop-text
invariant-loop-text g l = record {
  found : HasCleanDisk (state g.S.Store l.self.conn) → (W : Who) (L : List Entry) → StandsWhileOpen (state g.S.Store l.fn.self.conn) W L
      → (n : Named) → l.fn.draft ≡ part_for L l.who n → l.draft ≡ part_for L l.who (with_texts l.sought (map (λ t. t.now) (take l.text-index l.texts)) n);
  went : Went {T = Unit {0}} g.S.Store l.fn.self l.self (Ok tt);
}
