use Rattle.std.proofs.Common.{◌+◌, subst}
use Rattle.std.specs.Prelude.{Result}
use Rattle.std.proofs.lemmas.Result.{IfOk-weaker}
use Rattle.definitions.specs.Events.{Event}
use Rattle.definitions.specs.History.{Rejection}
use Rattle.set_effects.specs.Judging.{IsVerdict}
use Rattle.set_effects.proofs.SetsNamed.{named_same}
use Rattle.set_effects.proofs.Judges.{judged_traded}
use Rattle.set_effects.proofs.judging.judged.Goals as goal

pub returns-in-Ok-clause-value : goal.returns-in-Ok-clause-value
returns-in-Ok-clause-value c = IfOk-weaker c.settled.result _ _ (λ v h d same n P es part names shows.
    subst (λ (o : Result Event Rejection). IsVerdict P es o v)
    (judged_traded c.args.rules d es (c.args.page.now.entries + 1) c.args.kind c.in-Ok.set.kind c.in-Ok.set.rules c.args.segments.now c.in-Ok.set.pieces c.in-Ok.ensures.0 c.in-Ok.ensures.1 c.in-Ok.ensures.3 c.in-Ok.ensures.2 same)
    (h n P es part (named_same c.args.rules d n c.args.kind c.in-Ok.set.kind c.args.segments.now c.in-Ok.set.pieces c.in-Ok.ensures.0 c.in-Ok.ensures.1 c.in-Ok.ensures.2 same names) shows)) c.settled.ensures.value
