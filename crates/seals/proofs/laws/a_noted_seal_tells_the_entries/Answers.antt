use Rattle.seals.proofs.Collisions.{noted}
use Rattle.seals.proofs.laws.a_noted_seal_tells_the_entries.Goals as goal

pub returns : goal.returns
returns c = noted
