use Rattle.command_line.proofs.Parsing.{long, value_name, help, action}
use Rattle.command_line.proofs.arguments.option.Goals as goal

pub returns : goal.returns
returns c =
    let called = long c.new.result c.long.result _ c.long.ensures (c.new.ensures.rule, c.new.ensures.optional.1) in
    let named = value_name c.long.result c.value_name.result _ c.value_name.ensures called in
    let told = help c.value_name.result c.help.result _ c.help.ensures named in
    action c.help.result c.action.result _ c.action.ensures told
