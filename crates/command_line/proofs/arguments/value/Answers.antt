use Rattle.command_line.proofs.Parsing.{value_name, help, required, action}
use Rattle.command_line.proofs.arguments.value.Goals as goal

pub returns : goal.returns
returns c =
    let named = value_name c.new.result c.value_name.result _ c.value_name.ensures (c.new.ensures.rule, c.new.ensures.optional.1) in
    let told = help c.value_name.result c.help.result _ c.help.ensures named in
    let wanted = required c.help.result c.required.result _ c.required.ensures told in
    action c.required.result c.action.result _ c.action.ensures wanted
