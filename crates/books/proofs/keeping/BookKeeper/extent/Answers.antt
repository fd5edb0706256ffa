use Rattle.std.proofs.Common.{◌≡◌, Ok, rules}
use Rattle.std.specs.Prelude.{IsErrAnd}
use Rattle.sqlite.specs.Held.{state}
use Rattle.store.specs.declared.keeping.Extent.{Extent}
use Rattle.book_tables.proofs.Queries.{went_as, went_fails}
use Rattle.books.proofs.AskedBooks.{asked_query}
use Rattle.books.proofs.ExtentLemmas.{pair_of}
use Rattle.books.proofs.keeping.BookKeeper.extent.Goals as goal

pub returns-clause-extent : goal.returns-clause-extent
returns-clause-extent g c = rw (← c.self.view_is) (λ clean L k. pair_of k.count (c.in_ok-last.ensures.last clean c.self.inside.warehouse L k.stands k.count))

pub returns-clause-query : goal.returns-clause-query
returns-clause-query g c = rw (← c.self.view_is) (
    let b = c.self.inside in
    let m = c.last_of.new.tables in
    let found : Extent = record { entries = b.entries; last = c.in_ok-last.last } in
    let went = went_as g.S.Store b.tables m c.in_ok-last.last found c.in_ok-last.ensures.went in
    asked_query (Ok found) (state g.S.Store b.tables.conn) (state g.S.Store m.conn) b.warehouse b.entries b.tables.refused m.refused b.shut c.if-self.false went.counts went.left went.fault)

pub returns-in_err-last-clause-query : goal.returns-in_err-last-clause-query
returns-in_err-last-clause-query g c = rw (← c.self.view_is) (
    let b = c.self.inside in
    let m = c.last_of.new.tables in
    let same : IsErrAnd c.from_residual.result (λ f. f ≡ c.in_err-last.field-0.0) = search rules in
    let went = went_fails g.S.Store b.tables m c.in_err-last.field-0.0 c.from_residual.result same c.in_err-last.ensures.went in
    asked_query c.from_residual.result (state g.S.Store b.tables.conn) (state g.S.Store m.conn) b.warehouse b.entries b.tables.refused m.refused b.shut c.if-self.false went.counts went.left went.fault)
