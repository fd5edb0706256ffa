use Rattle.command_line.proofs.Parsing.{long, help, action}
use Rattle.command_line.proofs.arguments.flag.Goals as goal

pub returns : goal.returns
returns c =
    let called = long c.new.result c.long.result _ c.long.ensures (c.new.ensures.rule, c.new.ensures.optional.1) in
    let told = help c.long.result c.help.result _ c.help.ensures called in
    action c.help.result c.action.result _ c.action.ensures told
