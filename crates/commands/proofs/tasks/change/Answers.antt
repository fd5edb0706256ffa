use Rattle.std.proofs.Common.{inl, inr, rules}
use Rattle.commands.proofs.PrintingLaws.{on_ok}
use Rattle.commands.proofs.tasks.change.Goals as goal

pub returns-in-Ok-clause-changed : goal.returns-in-Ok-clause-changed
returns-in-Ok-clause-changed g c =
    let made = rw c.in-Ok.is at c.ready_at.ensures.ready in
    let given = rw c.in-Ok.is at c.ready_at.ensures.moment in
    inl (record {
      ready = c.in-Ok.made.0;
      made = made;
      moment = c.in-Ok.made.1;
      given = given;
      performed = c.perform.ensures.performed;
    })

pub returns-in-Err-Refused-clause-changed : goal.returns-in-Err-Refused-clause-changed
returns-in-Err-Refused-clause-changed g c =
    let unready = rw c.in-Err-Refused.field-0-is at c.in-Err-Refused.ensures.unready in
    inr (record {
      left = search rules;
      why = on_ok c.tell_unready.result (c.in-Err-Refused.refusal, unready);
    })
