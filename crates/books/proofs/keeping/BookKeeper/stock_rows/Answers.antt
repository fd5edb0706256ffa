use Rattle.sqlite.specs.Held.{state}
use Rattle.books.proofs.AskedBooks.{asked_query}
use Rattle.books.proofs.keeping.BookKeeper.stock_rows.Goals as goal

pub returns-clause-rows : goal.returns-clause-rows
returns-clause-rows g c = rw (← c.self.view_is) (λ clean L k legal. c.stock_of.ensures.rows clean c.self.inside.warehouse L k.stands)

pub returns-clause-query : goal.returns-clause-query
returns-clause-query g c = rw (← c.self.view_is) (
    let b = c.self.inside in
    asked_query c.stock_of.result (state g.S.Store b.tables.conn) (state g.S.Store c.stock_of.new.self.conn) b.warehouse b.entries b.tables.refused c.stock_of.new.self.refused b.shut c.if-self.false c.stock_of.ensures.asked.counts c.stock_of.ensures.asked.left c.stock_of.ensures.asked.fault)
