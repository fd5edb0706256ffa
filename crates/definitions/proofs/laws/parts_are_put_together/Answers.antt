use Rattle.definitions.proofs.PartsLaws.{parts_together}
use Rattle.definitions.proofs.laws.parts_are_put_together.Goals as goal

pub returns : goal.returns
returns c = parts_together
