use Rattle.std.proofs.lemmas.Result.{IfOk-weaker}
use Rattle.rules.proofs.Plays.{clean_note}
use Rattle.rules.proofs.replays.received.Goals as goal

pub returns-in-Ok-clause-played : goal.returns-in-Ok-clause-played
returns-in-Ok-clause-played c = IfOk-weaker c.structured.result _ _ (λ r played h of is clean. played h of is (clean_note c.args.text.now clean)) c.structured.ensures.played
