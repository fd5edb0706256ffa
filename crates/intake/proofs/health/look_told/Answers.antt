use Rattle.std.proofs.Common.{◌≡◌, inl}
use Rattle.store.specs.Fault.TheVariants.{Reopen}
use Rattle.intake.proofs.Answered.{shown}
use Rattle.intake.proofs.Called.{unshown_or_want}
use Rattle.intake.proofs.health.look_told.Goals as goal

pub returns-in-Ok-clause-served : goal.returns-in-Ok-clause-served
returns-in-Ok-clause-served g c = λ t.
    let e = c.in-Ok.ensures in
    shown _ _ t _ _ _ _ (λ clean L keeps legal. e.response clean L keeps) e.query.reading.same (λ was yes. absurd (let n = e.query.shut was in cc))

pub returns-in-Err-clause-served : goal.returns-in-Err-clause-served
returns-in-Err-clause-served g c = λ t.
    let e = c.in-Err.ensures in
    unshown_or_want _ _ t c.in-Err.fault _ _ _ c.of_fault.ensures e.query.reading.fault e.query.reading.same
    (λ was yes. let n = e.query.shut was in let same : c.in-Err.fault ≡ Reopen = cc in inl same)
