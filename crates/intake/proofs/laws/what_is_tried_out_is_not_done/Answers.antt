use Rattle.intake.proofs.Tried.{trial_of, trial_submits_none}
use Rattle.intake.proofs.laws.what_is_tried_out_is_not_done.Goals as goal

pub returns-clause-paths : goal.returns-clause-paths
returns-clause-paths c = λ kind who ticket number path is. trial_of kind who ticket number path is

pub returns-clause-commands : goal.returns-clause-commands
returns-clause-commands c = λ asker audience h rest path is. trial_submits_none asker audience h rest path is
