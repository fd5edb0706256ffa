use Rattle.std.proofs.Common.{Some}
use Rattle.std.proofs.lemmas.Result.{IfOk-weaker}
use Rattle.entries.proofs.Again.{readable_reply}
use Rattle.entries.proofs.repeats.text_again.Goals as goal

pub returns-in-Ok-clause-reply : goal.returns-in-Ok-clause-reply
returns-in-Ok-clause-reply c = IfOk-weaker c.interchange_again.result _ _ (λ d reply r n h k entry key.
    readable_reply r c.args.warehouse.now (Some h) (Some k) c.args.text.now c.args.moment n d c.in-Ok.ensures.0 (reply r n k entry key)) c.interchange_again.ensures.reply
