use Rattle.intake.proofs.Whole.{calls_nothing}
use Rattle.intake.proofs.Beginnings.{same_command, same_answer}
use Rattle.intake.proofs.laws.the_routes_stay.Goals as goal

pub returns-clause-calls : goal.returns-clause-calls
returns-clause-calls c = λ path not. calls_nothing path not

pub returns-clause-commands : goal.returns-clause-commands
returns-clause-commands c = λ h rest not. same_command h rest not

pub returns-clause-answers : goal.returns-clause-answers
returns-clause-answers c = λ h rest not W L t. same_answer h rest not W L t
