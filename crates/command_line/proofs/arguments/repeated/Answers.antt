use Rattle.command_line.proofs.Parsing.{action}
use Rattle.command_line.proofs.arguments.repeated.Goals as goal

pub returns : goal.returns
returns c = action c.option.result c.action.result _ c.action.ensures c.option.ensures
