use Rattle.command_line.proofs.subcommands.enrol.Goals as goal

pub returns : goal.returns
returns c = c.with_try.ensures _ c.of_depositor-command.ensures
