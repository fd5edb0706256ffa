use Rattle.std.proofs.Common.{◌≡◌, inl, inr}
use Rattle.store.specs.Fault.TheVariants.{OutOfMemory, Reopen}
use Rattle.intake.proofs.Answered.{shown}
use Rattle.intake.proofs.Called.{unshown_or_want}
use Rattle.intake.proofs.clerks.got_from.Goals as goal

pub returns-in-Ok : goal.returns-in-Ok
returns-in-Ok g c =
    let e = c.in-Ok.ensures in
    shown _ _ _ _ _ _ _ (λ clean L keeps legal. e.response clean L keeps legal c.args.body.now c.args.moment) e.reading.same
    (λ was yes. elim (e.shut c.args.body.now was yes) [ inl none ↦ cc | inr none ↦ cc ])

pub returns-in-Err : goal.returns-in-Err
returns-in-Err g c =
    let e = c.in-Err.ensures in
    unshown_or_want _ _ _ c.in-Err.fault _ _ _ c.of_fault.ensures e.reading.fault e.reading.same
    (λ was yes. elim (e.shut c.args.body.now was yes) [
      | inl is ↦ let same : c.in-Err.fault ≡ Reopen = cc in inl same
      | inr is ↦ let same : c.in-Err.fault ≡ OutOfMemory = cc in inr same
    ])
