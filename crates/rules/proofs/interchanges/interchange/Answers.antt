use Rattle.std.proofs.lemmas.Result.{IfOk-weaker}
use Rattle.rules.specs.Decided.{entries_of}
use Rattle.entries.proofs.Again.{readable_reply}
use Rattle.rules.proofs.Leading.{nowhere_from}
use Rattle.rules.proofs.interchanges.interchange.Goals as goal

pub returns-in-Ok-clause-reply : goal.returns-in-Ok-clause-reply
returns-in-Ok-clause-reply c = IfOk-weaker c.readable.result _ _ (λ d reply h k given.
    readable_reply c.args.rules c.args.warehouse.now h k c.args.text.now c.args.moment (entries_of c.args.page) d c.in-Ok.ensures.0 (reply h k given)) c.readable.ensures.reply

pub returns-in-Err-clause-leads : goal.returns-in-Err-clause-leads
returns-in-Err-clause-leads c = nowhere_from c.args.rules c.args.page _ c.args.moment _ tt
