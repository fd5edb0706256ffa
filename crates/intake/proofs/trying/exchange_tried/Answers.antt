use Rattle.intake.proofs.Answered.{may_want}
use Rattle.intake.proofs.trying.exchange_tried.Goals as goal

pub returns : goal.returns
returns g c = may_want _ _ _ _ _ _ _ c.interchange_tried.ensures
