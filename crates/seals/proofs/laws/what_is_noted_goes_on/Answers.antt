use Rattle.seals.proofs.Notings.{noted_added}
use Rattle.seals.proofs.laws.what_is_noted_goes_on.Goals as goal

pub returns : goal.returns
returns c = noted_added
