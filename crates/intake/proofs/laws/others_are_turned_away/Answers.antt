use Rattle.intake.proofs.Others.{no_command, a_403, own_sender, foreign_command, foreign_403}
use Rattle.intake.proofs.laws.others_are_turned_away.Goals as goal

pub returns-clause-commands : goal.returns-clause-commands
returns-clause-commands c = λ asker audience h rest not. no_command asker audience h rest not

pub returns-clause-answers : goal.returns-clause-answers
returns-clause-answers c = λ asker audience h rest not W L t. a_403 asker audience h rest not W L t

pub returns-clause-senders : goal.returns-clause-senders
returns-clause-senders c = λ asker audience h rest command is. own_sender asker audience h rest command is

pub returns-clause-foreign : goal.returns-clause-foreign
returns-clause-foreign c = λ asker audience h rest body is not W L t. (foreign_command h rest body audience is asker not, foreign_403 h rest body audience is asker not W L t)
