use Rattle.command_line.proofs.subcommands.send.Goals as goal

pub returns : goal.returns
returns c = c.with_try.ensures _ (c.subcommand-command.ensures _ c.value.ensures)
