use Rattle.seals.proofs.Beginnings.{seal_back, seal_only}
use Rattle.seals.proofs.laws.seals_are_read_back.Goals as goal

pub returns-clause-back : goal.returns-clause-back
returns-clause-back c = seal_back

pub returns-clause-only : goal.returns-clause-only
returns-clause-only c = seal_only
