use Rattle.intake.specs.Calls.{deed_reply}
use Rattle.intake.proofs.Answered.{done, undone}
use Rattle.intake.proofs.clerks.performed.Goals as goal

pub returns-in-Ok : goal.returns-in-Ok
returns-in-Ok g c =
    let e = c.in-Ok.ensures in
    done _ _ _ deed_reply _ _ c.in-Ok.reply _ c.command.ensures.told c.of_deed.ensures e.reply (λ clean L u. e.ok clean L u c.command.ensures.given) e.kept e.opened e.goes (λ was. cc ((e.shut was).0))

pub returns-in-Err : goal.returns-in-Err
returns-in-Err g c =
    let e = c.in-Err.ensures in
    undone _ _ _ _ _ c.in-Err.fault _ _ c.command.ensures.told c.of_fault.ensures e.fault (λ clean L u. e.left clean L u c.command.ensures.given) e.goes (λ was. cc ((e.shut was).0))
