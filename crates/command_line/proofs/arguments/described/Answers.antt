use Rattle.command_line.proofs.Parsing.{about, override_usage, after_help}
use Rattle.command_line.proofs.arguments.described.Goals as goal

pub returns : goal.returns
returns c =
    let told = about _ _ _ c.about.ensures (c.new.ensures.app, c.new.ensures.local) in
    after_help _ _ _ c.after_help.ensures (override_usage _ _ _ c.override_usage.ensures told)
