use Rattle.command_line.proofs.subcommands.recount.Goals as goal

pub returns : goal.returns
returns c = c.with_sheet.ensures _ c.of_clerk-command.ensures
