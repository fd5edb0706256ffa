use Rattle.intake.specs.Calls.{deed_reply}
use Rattle.intake.proofs.Answered.{tried_out, unshown}
use Rattle.intake.proofs.trying.slip_tried.Goals as goal

pub returns-in-Ok : goal.returns-in-Ok
returns-in-Ok g c =
    let e = c.in-Ok.ensures in
    tried_out _ _ _ deed_reply _ _ c.in-Ok.reply _ c.command.ensures.told c.of_deed.ensures e.reply e.query.reading.same (λ was. cc (e.query.shut was))

pub returns-in-Err : goal.returns-in-Err
returns-in-Err g c =
    let e = c.in-Err.ensures in
    unshown _ _ _ c.in-Err.fault _ _ _ c.of_fault.ensures e.query.reading.fault e.query.reading.same (λ was yes. cc (e.query.shut was))
