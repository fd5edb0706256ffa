use Rattle.intake.proofs.Tried.{tester_command, tester_answer}
use Rattle.intake.proofs.laws.testers_are_served_as_partners.Goals as goal

pub returns-clause-commands : goal.returns-clause-commands
returns-clause-commands c = λ h rest not. tester_command h rest not

pub returns-clause-answers : goal.returns-clause-answers
returns-clause-answers c = λ h rest not W L t. tester_answer h rest not W L t
