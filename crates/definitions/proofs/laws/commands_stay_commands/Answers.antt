use Rattle.definitions.proofs.LaterLaws.{is_command-later}
use Rattle.definitions.proofs.laws.commands_stay_commands.Goals as goal

pub returns : goal.returns
returns c = λ a h. is_command-later a h
