use Rattle.definitions.proofs.CarriedLaws.{stands-carried}
use Rattle.definitions.proofs.laws.carried_books_stand.Goals as goal

pub returns : goal.returns
returns c = λ rows W L s. stands-carried rows W L s
