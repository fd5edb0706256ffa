use Rattle.command_line.proofs.shows.depositors.Goals as goal

pub returns : goal.returns
returns c = c.subcommand.ensures _ c.at.ensures
