use Rattle.command_line.proofs.subcommands.verify.Goals as goal

pub returns : goal.returns
returns c = c.with_at.ensures _ (c.subcommand-command.ensures _ c.option.ensures)
