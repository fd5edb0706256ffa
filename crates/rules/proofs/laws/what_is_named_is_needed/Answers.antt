use Rattle.rules.proofs.NeedNames.{needed}
use Rattle.rules.proofs.laws.what_is_named_is_needed.Goals as goal

pub returns : goal.returns
returns c = λ P sound p command part. needed P sound p command part
