use Rattle.definitions.proofs.PartLaws.{agree-part}
use Rattle.definitions.proofs.laws.page_agrees_with_its_part.Goals as goal

pub returns : goal.returns
returns c = λ need P. agree-part need P
