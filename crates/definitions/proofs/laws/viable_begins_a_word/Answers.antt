use Rattle.definitions.proofs.WordsLaws.{viable_to, viable_from}
use Rattle.definitions.proofs.laws.viable_begins_a_word.Goals as goal

pub returns : goal.returns
returns c = λ w ids. (viable_to w ids, viable_from w ids)
