use Rattle.command_line.proofs.shows.open.Goals as goal

pub returns : goal.returns
returns c = c.with_at.ensures _ c.of_depositor-command.ensures
