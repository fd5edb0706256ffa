use Rattle.command_line.proofs.subcommands.of_scripts.Goals as goal

pub returns : goal.returns
returns c = c.with_lines.ensures _ c.top.ensures.0
