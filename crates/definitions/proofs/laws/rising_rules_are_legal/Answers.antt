use Rattle.definitions.proofs.RisingLaws.{rising-legal}
use Rattle.definitions.proofs.laws.rising_rules_are_legal.Goals as goal

pub returns : goal.returns
returns c = λ W cs w h k. rising-legal W cs w h k
