use Rattle.command_line.proofs.subcommands.with_acts.Goals as goal

pub returns : goal.returns
returns c = λ a top.
    let with_enrol = c.join_at-parser.ensures _ _ top c.enrol.ensures in
    let with_roster = c.join_at-parser-2.ensures _ _ with_enrol c.roster.ensures in
    let with_send = c.join_either_at-parser.ensures _ _ with_roster c.send.ensures in
    let with_take = c.join_at-parser-3.ensures _ _ with_send c.take.ensures in
    let with_count = c.join_either_at-parser-2.ensures _ _ with_take c.count.ensures in
    let with_pick = c.join_either_at-parser-3.ensures _ _ with_count c.pick.ensures in
    c.join_either_at.ensures _ _ with_pick c.recount.ensures
