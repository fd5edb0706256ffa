use Rattle.command_line.proofs.subcommands.with_lines.Goals as goal

pub returns : goal.returns
returns c = λ a top.
    let with_init = c.join_at-parser.ensures _ _ top c.init.ensures in
    c.with_shows.ensures _ (c.with_acts-parser.ensures _ with_init)
