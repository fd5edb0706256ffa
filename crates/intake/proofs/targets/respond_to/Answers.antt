use Rattle.intake.proofs.Answered.{may_want}
use Rattle.intake.proofs.targets.respond_to.Goals as goal

pub returns-in-Route : goal.returns-in-Route
returns-in-Route g c = rw c.in-Route.is (may_want _ _ _ _ _ _ _ c.respond_at.ensures)

pub returns-in-Call : goal.returns-in-Call
returns-in-Call g c = rw c.in-Call.is c.called.ensures
