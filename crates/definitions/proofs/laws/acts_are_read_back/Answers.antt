use Rattle.definitions.proofs.ReadingLaws.{act_of-canonical}
use Rattle.definitions.proofs.laws.acts_are_read_back.Goals as goal

pub returns : goal.returns
returns c = λ r act h. act_of-canonical r act h
