use Rattle.command_line.proofs.subcommands.batch.Goals as goal

pub returns : goal.returns
returns c = c.subcommand.ensures _ c.value.ensures
