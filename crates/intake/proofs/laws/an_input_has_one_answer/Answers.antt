use Rattle.intake.proofs.Beginnings.{one_command, one_answer}
use Rattle.intake.proofs.laws.an_input_has_one_answer.Goals as goal

pub returns-clause-commands : goal.returns-clause-commands
returns-clause-commands c = λ audience input g h r s a b. one_command audience input g h r s a b

pub returns-clause-answers : goal.returns-clause-answers
returns-clause-answers c = λ audience W L t input g h r s a b. one_answer audience W L t input g h r s a b
