use Rattle.definitions.proofs.RisingLaws.{legal-rises}
use Rattle.definitions.proofs.laws.rules_never_fall.Goals as goal

pub returns : goal.returns
returns c = λ r W L l. legal-rises r W L l
