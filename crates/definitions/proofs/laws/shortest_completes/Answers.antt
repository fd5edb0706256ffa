use Rattle.definitions.proofs.ShortestLaws.{shortest_completes}
use Rattle.definitions.proofs.laws.shortest_completes.Goals as goal

pub returns : goal.returns
returns c = λ w ids more h. shortest_completes w ids more h
