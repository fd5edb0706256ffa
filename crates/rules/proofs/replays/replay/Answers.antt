use Rattle.std.proofs.Common.{[], ◌∷◌, ◌∙◌, sym, ap, subst}
use Rattle.std.specs.Prelude.{Option}
use Rattle.definitions.specs.Events.{Enrolment}
use Rattle.stock.specs.Pages.{PageFacts}
use Rattle.stock.specs.Shows.{Shows}
use Rattle.rules.specs.Played.{IsBefore}
use Rattle.rules.proofs.Plays.{enrolled}
use Rattle.rules.proofs.replays.replay.Goals as goal

pub returns-in-None-clause-replayed : goal.returns-in-None-clause-replayed
returns-in-None-clause-replayed c = λ h e before entry few good clean.
    enrolled c.args.warehouse.now h e.who e.moment e.deed e.rules c.nothing.result.page c.nothing.result.outgoing.items
    (subst (λ (p : PageFacts). Shows p (Enrolment ∷ [])) (sym c.nothing.ensures.page) c.new.ensures.shows)
    (ap (λ (p : PageFacts). p.entries) c.nothing.ensures.page ∙ c.new.ensures.entries) c.nothing.ensures.outgoing
    (subst (λ (o : Option PageFacts). IsBefore o h e) c.in-None.is before)
