use Rattle.rules.proofs.NeedNames.{closed}
use Rattle.rules.proofs.laws.what_is_named_is_closed.Goals as goal

pub returns : goal.returns
returns c = λ P sound need. closed P sound need
