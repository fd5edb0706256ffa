use Rattle.definitions.proofs.PartLaws.{agree-covered}
use Rattle.definitions.proofs.laws.agreement_goes_down.Goals as goal

pub returns : goal.returns
returns c = λ bigger smaller P Q h e. agree-covered bigger smaller P Q h e
