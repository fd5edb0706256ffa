use Rattle.intake.proofs.Beginnings.{one_thing}
use Rattle.intake.proofs.laws.an_input_asks_for_one_thing.Goals as goal

pub returns : goal.returns
returns c = λ input g h r s a b. one_thing input g h r s a b
