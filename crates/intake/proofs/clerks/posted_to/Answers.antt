use Rattle.intake.proofs.Called.{not_posted}
use Rattle.intake.proofs.clerks.posted_to.Goals as goal

pub returns-in_default : goal.returns-in_default
returns-in_default g c = not_posted _ _ c.args.call.now c.args.body.now _ c.in_default.not-Deed c.in_default.not-TriedDeed c.in_default.not-TriedExchange c.not_called.ensures
