use Rattle.std.proofs.Common.{refl}
use Rattle.sqlite.specs.Held.{state}
use Rattle.books.proofs.AskedBooks.{asked_query}
use Rattle.books.proofs.sealing.BookSealed.seal_of_first.Goals as goal

pub returns-clause-seal : goal.returns-clause-seal
returns-clause-seal g c = rw (← c.self.view_is) (λ clean L k. c.seal_first.ensures.seal clean c.self.inside.warehouse L k.stands)

pub returns-clause-query : goal.returns-clause-query
returns-clause-query g c = rw (← c.self.view_is) (
    let b = c.self.inside in
    let m = c.seal_first.new.tables in
    let went = c.seal_first.ensures.went in
    asked_query c.seal_first.result (state g.S.Store b.tables.conn) (state g.S.Store m.conn) b.warehouse b.entries b.tables.refused m.refused b.shut c.if-self.false went.counts went.left went.fault)

pub returns-clause-unchanged : goal.returns-clause-unchanged
returns-clause-unchanged g c = rw (← c.self.view_is) (let went = c.seal_first.ensures.went in record { tables = went.left; warehouse = refl; entries = refl; shut = refl })
