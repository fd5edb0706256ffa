use Rattle.definitions.proofs.PartLaws.{part-part}
use Rattle.definitions.proofs.laws.part_of_a_part.Goals as goal

pub returns : goal.returns
returns c = λ bigger smaller P h. part-part bigger smaller h P
