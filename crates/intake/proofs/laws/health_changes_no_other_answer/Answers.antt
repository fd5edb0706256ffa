use Rattle.intake.proofs.Probes.{no_health, same_command, same_answer}
use Rattle.intake.proofs.laws.health_changes_no_other_answer.Goals as goal

pub returns-clause-none : goal.returns-clause-none
returns-clause-none c = λ access head none. no_health access head none

pub returns-clause-commands : goal.returns-clause-commands
returns-clause-commands c = λ access head rest none. same_command access head rest none

pub returns-clause-answers : goal.returns-clause-answers
returns-clause-answers c = λ access head rest none W L t. same_answer access W L head rest t none
