use Rattle.std.proofs.Common.{inr, rules}
use Rattle.commands.proofs.PrintingLaws.{on_ok}
use Rattle.commands.proofs.tasks.try_out_line.Goals as goal

pub returns-in-Err-Refused-clause-tried : goal.returns-in-Err-Refused-clause-tried
returns-in-Err-Refused-clause-tried g c =
    let unready = rw c.in-Err-Refused.field-0-is at c.in-Err-Refused.ensures.unready in
    inr (record {
      left = search rules;
      why = on_ok c.tell_unready.result (c.in-Err-Refused.refusal, unready);
    })
