use Rattle.std.proofs.Common.{arith, ap, sym, subst}
use Rattle.page_rows.specs.Pages.{PageFacts}
use Rattle.stock.specs.Facts.{facts_of}
use Rattle.stock.specs.Shows.{Shows}
use Rattle.stock.proofs.PageLemmas.{next_sound, next_shows}
use Rattle.stock.proofs.page.Page.next_entry.Goals as goal

pub invariant_of-self : goal.invariant_of-self
invariant_of-self c = next_sound (facts_of c.self.inside.facts)
    (omega (arith, ap (λ (p : PageFacts). p.entries) c.self.view_is, c.requires)) c.self.invariant

pub returns-clause-shows : goal.returns-clause-shows
returns-clause-shows c = λ es shows.
    next_shows (facts_of c.self.inside.facts)
    es (subst (λ (p : PageFacts). Shows p es) (sym c.self.view_is) shows)
