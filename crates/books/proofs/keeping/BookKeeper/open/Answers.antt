use Rattle.sqlite.specs.Held.{state}
use Rattle.books.proofs.AskedBooks.{asked_query}
use Rattle.books.proofs.keeping.BookKeeper.open.Goals as goal

pub returns-clause-work : goal.returns-clause-work
returns-clause-work g c = rw (← c.self.view_is) (λ clean L k legal. c.open_of.ensures.work clean c.self.inside.warehouse L k.stands)

pub returns-clause-query : goal.returns-clause-query
returns-clause-query g c = rw (← c.self.view_is) (
    let b = c.self.inside in
    asked_query c.open_of.result (state g.S.Store b.tables.conn) (state g.S.Store c.open_of.new.self.conn) b.warehouse b.entries b.tables.refused c.open_of.new.self.refused b.shut c.if-self.false c.open_of.ensures.asked.counts c.open_of.ensures.asked.left c.open_of.ensures.asked.fault)
