use Rattle.std.proofs.Common.{sym, subst, Option}
use Rattle.std.proofs.lemmas.Result.{IfOk-weaker}
use Rattle.definitions.specs.Decision.{standing}
use Rattle.definitions.specs.Register.{own}
use Rattle.sqlite.specs.Held.{state}
use Rattle.rules.specs.Pages.{PageFacts}
use Rattle.store.specs.Held.{IsHeld}
use Rattle.books.proofs.AskedBooks.{asked_query}
use Rattle.book_tables.proofs.NeededParts.{held_needed}
use Rattle.books.proofs.keeping.BookKeeper.load.Goals as goal

pub returns-clause-page : goal.returns-clause-page
returns-clause-page g c = rw (← c.self.view_is) (λ clean L k legal.
    IfOk-weaker c.page_for.result _ _ (λ page is.
    subst (λ (o : Option PageFacts). IsHeld c.args.need.now o (standing (own L c.args.who))) (sym is) (held_needed c.self.inside.warehouse L c.args.who c.args.need.now legal))
    (c.page_for.ensures.part clean c.self.inside.warehouse L k.stands))

pub returns-clause-part : goal.returns-clause-part
returns-clause-part g c = rw (← c.self.view_is) (λ clean L k. c.page_for.ensures.part clean c.self.inside.warehouse L k.stands)

pub returns-clause-query : goal.returns-clause-query
returns-clause-query g c = rw (← c.self.view_is) (
    let b = c.self.inside in
    asked_query c.page_for.result (state g.S.Store b.tables.conn) (state g.S.Store c.page_for.new.self.conn) b.warehouse b.entries b.tables.refused c.page_for.new.self.refused b.shut c.if-self.false c.page_for.ensures.asked.counts c.page_for.ensures.asked.left c.page_for.ensures.asked.fault)
