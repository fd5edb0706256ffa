use Rattle.std.proofs.Common.{inr, refl}
use Rattle.app.proofs.AskingLemmas.{asked_so, told_unasked}
use Rattle.app.proofs.over_server.run_over_server.Goals as goal

pub returns-in-Err-Refused : goal.returns-in-Err-Refused
returns-in-Err-Refused g c =
    let unready = rw c.in-Err-Refused.field-0-is at c.in-Err-Refused.ensures.none in
    asked_so g.W.Write.contents c.args.task.now c.args.out.now c.args.out.now c.tell_unready.result c.in_default.not-HandOn (inr (record {
      printed = refl;
      says = c.tell_unready.ensures.says;
      why = told_unasked _ c.args.task.now c.in-Err-Refused.refusal c.tell_unready.result unready;
    }))
