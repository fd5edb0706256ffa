use Rattle.std.proofs.Common.{◌∙◌, ap}
use Rattle.definitions.specs.Response.{refused_response}
use Rattle.intake.proofs.Found.{formed, unformed}
use Rattle.intake.proofs.forms.form_at.Goals as goal

pub returns-in_default-2-clause-response : goal.returns-in_default-2-clause-response
returns-in_default-2-clause-response g c = λ clean L keeps legal.
    let held = rw c.in_default-2.is at (c.in_ok-page.ensures.page clean L keeps legal) in
    c.stranger.ensures ∙ unformed L c.args.form c.args.number.now c.in-Some.who _ c.in_ok-need.need c.in-Some.ensures held

pub returns-in-Ok-clause-response : goal.returns-in-Ok-clause-response
returns-in-Ok-clause-response g c = λ clean L keeps legal.
    let held = rw c.in-Some-2.is at (c.in_ok-page.ensures.page clean L keeps legal) in
    c.with_text.ensures ∙ formed L c.args.form c.args.number.now c.in-Some.who _ _ _ _ c.in-Some.ensures c.in_ok-need.ensures held c.in-Ok.ensures.ok

pub returns-in-Err-Refused-clause-response : goal.returns-in-Err-Refused-clause-response
returns-in-Err-Refused-clause-response g c = λ clean L keeps legal.
    let held = rw c.in-Some-2.is at (c.in_ok-page.ensures.page clean L keeps legal) in
    c.refused.ensures ∙ ap (refused_response c.in-Err-Refused.refusal) c.new.ensures.items
    ∙ formed L c.args.form c.args.number.now c.in-Some.who _ _ _ _ c.in-Some.ensures c.in_ok-need.ensures held (rw c.in-Err-Refused.field-0-is at c.in-Err-Refused.ensures.err)
