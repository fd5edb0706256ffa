use Rattle.seals.proofs.Beginnings.{stays}
use Rattle.seals.proofs.laws.a_beginning_stays.Goals as goal

pub returns : goal.returns
returns c = stays
