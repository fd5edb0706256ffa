use Rattle.std.proofs.Common.{◌∙◌, ap}
use Rattle.definitions.specs.Response.{with_body, plain_type}
use Rattle.intake.proofs.Replied.{bad_text_line}
use Rattle.intake.proofs.replies.bad_part.Goals as goal

pub returns : goal.returns
returns c = c.with_line.ensures ∙ ap (with_body 404 plain_type) (c.line.ensures ∙ bad_text_line)
