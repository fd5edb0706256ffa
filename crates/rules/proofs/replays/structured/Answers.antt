use Rattle.std.proofs.Common.{List, subst}
use Rattle.std.proofs.lemmas.Result.{IfOk-weaker}
use Rattle.definitions.specs.Register.{Received}
use Rattle.rules.specs.Played.{IsPlayed}
use Rattle.rules.proofs.replays.structured.Goals as goal

pub returns-in-Ok-clause-played : goal.returns-in-Ok-clause-played
returns-in-Ok-clause-played c = IfOk-weaker c.grouped.result _ _ (λ r played h of is clean.
    let e = c.args.envelope in
    subst (λ (text : List _). IsPlayed e.warehouse h (record { who = e.depositor; moment = e.moment; deed = Received text; rules = c.args.rules }) r.page r.outgoing.items) c.requires.same (played h of is)) c.grouped.ensures.played
