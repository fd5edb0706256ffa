use Rattle.definitions.proofs.CarriedLaws.{expiry-legal}
use Rattle.definitions.proofs.laws.first_rules_give_no_expiry.Goals as goal

pub returns : goal.returns
returns c = λ W L w item lot l. expiry-legal W L w item lot l
