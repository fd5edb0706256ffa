use Rattle.intake.proofs.Told.{served_on}
use Rattle.intake.proofs.listening.serve_on.Goals as goal

pub returns-clause-served : goal.returns-clause-served
returns-clause-served g c =
    let e = c.serve_telling-served.ensures in
    served_on _ _ _ _ _ _ _ _ _ _ _ e.written e.stopped
