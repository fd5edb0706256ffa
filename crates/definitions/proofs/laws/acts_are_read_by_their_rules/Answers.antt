use Rattle.definitions.proofs.RisingLaws.{act_of-first}
use Rattle.definitions.proofs.laws.acts_are_read_by_their_rules.Goals as goal

pub returns : goal.returns
returns c = λ text. act_of-first text
