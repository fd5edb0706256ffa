use Rattle.command_line.proofs.arguments.of_depositor.Goals as goal

pub returns : goal.returns
returns c = c.subcommand.ensures _ c.depositor.ensures
