use Rattle.command_line.proofs.Parsing.{no_binary_name, subcommand_required, disable_help_subcommand, disable_version_flag}
use Rattle.command_line.proofs.subcommands.top.Goals as goal

pub returns : goal.returns
returns c =
    let unnamed = no_binary_name _ _ _ c.no_binary_name.ensures c.described.ensures in
    let commanded = subcommand_required _ _ _ c.subcommand_required.ensures unnamed in
    let helpless = disable_help_subcommand _ _ _ c.disable_help_subcommand.ensures commanded in
    disable_version_flag _ _ _ c.disable_version_flag.ensures helpless
