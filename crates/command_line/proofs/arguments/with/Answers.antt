use Rattle.std.proofs.Common.{subst, IfOk}
use Rattle.std.proofs.lemmas.Result.{IfOk-weaker}
use Rattle.command_line.specs.Parsers.{IsCommand}
use Rattle.command_line.proofs.Parsing.{adds}
use Rattle.command_line.proofs.arguments.with.Goals as goal

pub returns-in-Ok : goal.returns-in-Ok
returns-in-Ok c = λ s r h i.
    let begun : IsCommand s c.in-Ok.command = subst (λ o. IfOk o (IsCommand s)) c.in-Ok.is h in
    IfOk-weaker c.arg.result _ _ (λ x added. adds c.in-Ok.command x c.args.arg added begun i) c.arg.ensures
