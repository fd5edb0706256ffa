use Rattle.std.proofs.Common.{◌∙◌, ap}
use Rattle.definitions.specs.Response.{with_body, plain_type}
use Rattle.intake.proofs.Replied.{ticket_line}
use Rattle.intake.proofs.replies.ticket_used.Goals as goal

pub returns : goal.returns
returns c = c.with_line.ensures ∙ ap (with_body 409 plain_type) (c.line.ensures ∙ ticket_line)
