use Rattle.sqlite.specs.Held.{state}
use Rattle.books.proofs.AskedBooks.{asked_query}
use Rattle.books.proofs.keeping.BookKeeper.text.Goals as goal

pub returns-clause-text : goal.returns-clause-text
returns-clause-text g c = rw (← c.self.view_is) (λ clean L k legal. c.text_of.ensures.text clean c.self.inside.warehouse L k.stands)

pub returns-clause-query : goal.returns-clause-query
returns-clause-query g c = rw (← c.self.view_is) (
    let b = c.self.inside in
    asked_query c.text_of.result (state g.S.Store b.tables.conn) (state g.S.Store c.text_of.new.self.conn) b.warehouse b.entries b.tables.refused c.text_of.new.self.refused b.shut c.if-self.false c.text_of.ensures.asked.counts c.text_of.ensures.asked.left c.text_of.ensures.asked.fault)
