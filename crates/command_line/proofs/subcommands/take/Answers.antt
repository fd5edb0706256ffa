use Rattle.command_line.proofs.subcommands.take.Goals as goal

pub returns : goal.returns
returns c = c.with_at.ensures _ (c.with-command.ensures _ _ (c.subcommand-command.ensures _ c.value.ensures) c.option.ensures)
