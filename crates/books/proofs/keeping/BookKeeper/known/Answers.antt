use Rattle.std.proofs.Common.{◌≡◌, ◌∙◌, ℕ, List, IfOk, option_map, subst}
use Rattle.definitions.specs.Decision.{recalled}
use Rattle.definitions.specs.Register.{own}
use Rattle.rules.specs.Decided.{IsRecalled}
use Rattle.sqlite.specs.Held.{state}
use Rattle.store.specs.Known.{first_under}
use Rattle.books.proofs.AskedBooks.{asked_query}
use Rattle.books.proofs.keeping.BookKeeper.known.Goals as goal

pub returns-clause-entry : goal.returns-clause-entry
returns-clause-entry g c = rw (← c.self.view_is) (λ clean L k legal.
    subst (λ (mark : List ℕ). IfOk c.known_of.result (λ known. IsRecalled known (recalled c.self.inside.warehouse mark (own L c.args.who)))) (c.deref.ensures.value ∙ c.in_ok-mark.ensures)
    (c.known_of.ensures.known clean c.self.inside.warehouse L k.stands))

pub returns-clause-recorded : goal.returns-clause-recorded
returns-clause-recorded g c = rw (← c.self.view_is) (λ clean L k.
    subst (λ (mark : List ℕ). IfOk c.known_of.result (λ known. option_map (λ r. r.entry) known ≡ first_under c.args.who mark L)) (c.deref.ensures.value ∙ c.in_ok-mark.ensures)
    (c.known_of.ensures.recorded clean c.self.inside.warehouse L k.stands))

pub returns-clause-query : goal.returns-clause-query
returns-clause-query g c = rw (← c.self.view_is) (
    let b = c.self.inside in
    asked_query c.known_of.result (state g.S.Store b.tables.conn) (state g.S.Store c.known_of.new.self.conn) b.warehouse b.entries b.tables.refused c.known_of.new.self.refused b.shut c.if-self.false c.known_of.ensures.asked.counts c.known_of.ensures.asked.left c.known_of.ensures.asked.fault)
