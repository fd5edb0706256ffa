use Rattle.intake.specs.declared.response.Status.TheVariants.{MethodNotAllowed}
use Rattle.intake.proofs.Written.{texts_are}
use Rattle.intake.proofs.response.not_allowed_response.Goals as goal

pub returns : goal.returns
returns c = cc (c.status_line.ensures, texts_are MethodNotAllowed)
