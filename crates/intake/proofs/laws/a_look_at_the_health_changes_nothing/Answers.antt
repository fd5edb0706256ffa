use Rattle.intake.proofs.Probes.{no_command, same_book}
use Rattle.intake.proofs.laws.a_look_at_the_health_changes_nothing.Goals as goal

pub returns-clause-commands : goal.returns-clause-commands
returns-clause-commands g c = λ access head rest is. no_command access head rest is

pub returns-clause-book : goal.returns-clause-book
returns-clause-book g c = λ access known t r line sender is. same_book access _ _ known t r line sender is
