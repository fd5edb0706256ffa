use Rattle.std.proofs.Common.{refl}
use Rattle.definitions.specs.Response.{reply_response}
use Rattle.intake.proofs.Answered.{done, undone}
use Rattle.intake.proofs.responding.hand_in.Goals as goal

pub returns-in-Ok : goal.returns-in-Ok
returns-in-Ok g c =
    let e = c.in-Ok.ensures in
    done _ _ _ reply_response _ _ c.in-Ok.reply _ refl c.of_reply.ensures e.reply (λ clean L u. e.ok clean L u refl) e.kept e.opened e.goes (λ was. cc ((e.shut was).0))

pub returns-in-Err : goal.returns-in-Err
returns-in-Err g c =
    let e = c.in-Err.ensures in
    undone _ _ _ _ _ c.in-Err.fault _ _ refl c.of_fault.ensures e.fault (λ clean L u. e.left clean L u refl) e.goes (λ was. cc ((e.shut was).0))
