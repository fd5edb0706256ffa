use Rattle.stock.proofs.PartLemmas.{part_of_self}
use Rattle.stock.proofs.laws.a_page_is_a_part_of_itself.Goals as goal

pub returns : goal.returns
returns c = λ n P sorted. part_of_self n P sorted
