use Rattle.store.proofs.Changes.{unchanged_refl}
use Rattle.intake.proofs.Answered.{shown, unshown}
use Rattle.intake.proofs.responding.respond_at.Goals as goal

pub returns-in-Ok : goal.returns-in-Ok
returns-in-Ok g c =
    let e = c.in-Ok.ensures in
    rw c.in-Get.is (shown _ _ _ _ _ _ _ (λ clean L keeps legal. e.response clean L keeps legal _ _) e.reading.same (λ was yes. cc (e.shut was yes)))

pub returns-in-Err : goal.returns-in-Err
returns-in-Err g c =
    let e = c.in-Err.ensures in
    rw c.in-Get.is (unshown _ _ _ c.in-Err.fault _ _ _ c.of_fault.ensures e.reading.fault e.reading.same (λ was yes. cc (e.shut was yes)))

pub returns-in-Post : goal.returns-in-Post
returns-in-Post g c = rw c.in-Post.is c.posted.ensures

pub returns-in-Other : goal.returns-in-Other
returns-in-Other g c =
    rw c.in-Other.is (shown _ _ _ _ _ _ _ (λ clean L keeps legal. c.not_served.ensures (g.K.Keeper.standing c.args.keeper.now).warehouse L _ _) (unchanged_refl _) (λ was yes. cc))
