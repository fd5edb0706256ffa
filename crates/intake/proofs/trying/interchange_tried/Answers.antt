use Rattle.std.proofs.Common.{refl}
use Rattle.definitions.specs.Register.{Interchange}
use Rattle.definitions.specs.Response.{reply_response}
use Rattle.intake.proofs.Answered.{tried_out, unshown}
use Rattle.intake.proofs.trying.interchange_tried.Goals as goal

pub returns-in-Ok : goal.returns-in-Ok
returns-in-Ok g c =
    let e = c.in-Ok.ensures in
    let k = Interchange c.args.body.now in
    tried_out _ _ _ reply_response k k c.in-Ok.reply _ refl c.of_reply.ensures e.reply e.query.reading.same (λ was. cc (e.query.shut was))

pub returns-in-Err : goal.returns-in-Err
returns-in-Err g c =
    let e = c.in-Err.ensures in
    unshown _ _ _ c.in-Err.fault _ _ _ c.of_fault.ensures e.query.reading.fault e.query.reading.same (λ was yes. cc (e.query.shut was))
