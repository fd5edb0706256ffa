use Rattle.std.proofs.lemmas.Result.{IfOk-weaker}
use Rattle.command_line.proofs.Parsing.{adds}
use Rattle.command_line.proofs.arguments.subcommand.Goals as goal

pub returns : goal.returns
returns c = λ r h. IfOk-weaker c.arg.result _ _ (λ x added. adds c.described.result x c.args.first added c.described.ensures h) c.arg.ensures
