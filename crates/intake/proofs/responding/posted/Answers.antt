use Rattle.std.proofs.Common.{◌∙◌, sym}
use Rattle.intake.specs.Routes.{seen_route}
use Rattle.intake.proofs.Posted.{posted_elsewhere, posted_there}
use Rattle.intake.proofs.responding.posted.Goals as goal

pub returns-then-not-is_handed_in : goal.returns-then-not-is_handed_in
returns-then-not-is_handed_in g c =
    posted_elsewhere _ _ _ _ (seen_route c.args.route.now) (sym c.is_handed_in.ensures ∙ c.if-not-is_handed_in.true) c.not_served.ensures

pub returns : goal.returns
returns g c =
    posted_there _ _ _ _ _ (seen_route c.args.route.now) (sym c.is_handed_in.ensures ∙ c.if-not-is_handed_in.false) c.hand_in.ensures
