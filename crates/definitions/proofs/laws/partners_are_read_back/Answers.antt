use Rattle.definitions.proofs.ReadingLaws.{who_of-who_text}
use Rattle.definitions.proofs.laws.partners_are_read_back.Goals as goal

pub returns : goal.returns
returns c = λ w h. who_of-who_text w h
