use Rattle.sqlite.specs.Held.{state}
use Rattle.books.proofs.AskedBooks.{asked_query}
use Rattle.books.proofs.keeping.BookKeeper.depositors.Goals as goal

pub returns-clause-whole : goal.returns-clause-whole
returns-clause-whole g c = rw (← c.self.view_is) (λ clean L k legal. c.depositors.ensures.whole clean c.self.inside.warehouse L k.stands)

pub returns-clause-query : goal.returns-clause-query
returns-clause-query g c = rw (← c.self.view_is) (
    let b = c.self.inside in
    asked_query c.depositors.result (state g.S.Store b.tables.conn) (state g.S.Store c.depositors.new.self.conn) b.warehouse b.entries b.tables.refused c.depositors.new.self.refused b.shut c.if-self.false c.depositors.ensures.asked.counts c.depositors.ensures.asked.left c.depositors.ensures.asked.fault)
