use Rattle.std.proofs.Common.{arith}
use Rattle.std.proofs.lemmas.Result.{on_err_weaker}
use Rattle.commands.proofs.ServingLaws.{none_came, on_err}
use Rattle.commands.proofs.serving.serve.Goals as goal

pub returns-in_err-listeners-clause-ended : goal.returns-in_err-listeners-clause-ended
returns-in_err-listeners-clause-ended g c =
    on_err c.from_residual.result (c.tell_clock.new.book, c.tell_clock.ensures, (0, 0, omega arith, none_came _ c.args.has_clock c.args.first c.tell_clock.new.book))

pub returns-in-Err-clause-ended : goal.returns-in-Err-clause-ended
returns-in-Err-clause-ended g c =
    (c.tell_clock.new.book, c.tell_clock.ensures, (0, 0, omega arith, none_came _ c.args.has_clock c.args.first c.tell_clock.new.book))

pub returns-in_default-clause-ended : goal.returns-in_default-clause-ended
returns-in_default-clause-ended g c =
    on_err_weaker c.serve_on-ended.result (λ h. (c.tell_clock.new.book, c.tell_clock.ensures, h)) c.serve_on-ended.ensures.ended
