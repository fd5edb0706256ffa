use Rattle.std.proofs.Common.{rules, refl, [], ◌≡◌}
use Rattle.std.specs.Prelude.{IsTrue}
use Rattle.sqlite.specs.Held.{state}
use Rattle.sqlite.specs.Tree.{Trees}
use Rattle.sqlite.proofs.StateLemmas.{survives_weaker}
use Rattle.definitions.specs.Rules.{Today}
use Rattle.definitions.specs.Header.{is_partner}
use Rattle.definitions.specs.Accepted.{IsLegal}
use Rattle.store.proofs.Entries.{nothing_legal}
use Rattle.book_statements.specs.Layout.{no_layout}
use Rattle.book_statements.specs.Standing.{StandsIn}
use Rattle.books.proofs.KeepingLemmas.{usable_now}
use Rattle.books.proofs.book.Book.create.Goals as goal

pub returns-in-Ok-clause-usable : goal.returns-in-Ok-clause-usable
returns-in-Ok-clause-usable g c = λ clean none.
    let house : IsTrue (is_partner c.args.warehouse) = search rules in
    usable_now (state g.S.Store c.make.new.self.conn) c.args.warehouse 0 c.make.new.self.refused [] refl
    (c.in-Ok.ensures.whole.ok clean (nothing_legal c.args.warehouse house) none) (c.in-Ok.ensures.whole.left clean)

pub returns-in-Err-clause-crash : goal.returns-in-Err-clause-crash
returns-in-Err-clause-crash g c =
    let house : IsTrue (is_partner c.args.warehouse) = search rules in
    survives_weaker (state g.S.Store c.args.tables.conn) (state g.S.Store c.make.new.self.conn)
    (λ (db : Trees). IsLegal Today c.args.warehouse [] → c.args.tables.conn.schema ≡ no_layout → StandsIn c.args.warehouse [] db)
    (λ (db : Trees). c.args.tables.conn.schema ≡ no_layout → StandsIn c.args.warehouse [] db)
    (λ clean db stands. stands (nothing_legal c.args.warehouse house)) c.make.ensures.whole.crash
