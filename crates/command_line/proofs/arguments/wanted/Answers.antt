use Rattle.command_line.proofs.Parsing.{required}
use Rattle.command_line.proofs.arguments.wanted.Goals as goal

pub returns : goal.returns
returns c = required c.option.result c.required.result _ c.required.ensures c.option.ensures
