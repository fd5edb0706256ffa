use Rattle.std.proofs.Common.{◌∙◌, ap}
use Rattle.definitions.specs.Response.{with_body, plain_type}
use Rattle.intake.proofs.Replied.{unreadable_line, refused_otherwise}
use Rattle.intake.proofs.replies.refused.Goals as goal

pub returns-in-Unreadable : goal.returns-in-Unreadable
returns-in-Unreadable c =
    rw c.in-Unreadable.is (c.with_line.ensures ∙ ap (with_body 400 plain_type) (c.line.ensures ∙ rw c.in-Unreadable.is unreadable_line))

pub returns-in_default : goal.returns-in_default
returns-in_default c =
    let d = c.in_default in
    c.with_line-in_default.ensures ∙ ap (with_body 422 plain_type) c.line-in_default.ensures
    ∙ refused_otherwise c.args.refusal c.args.answer.items d.not-Unreadable d.not-Note d.not-Duplicate
