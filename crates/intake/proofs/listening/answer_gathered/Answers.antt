use Rattle.std.proofs.Common.{Some, ap, ◌∙◌}
use Rattle.intake.proofs.Told.{served_by, served_of}
use Rattle.intake.proofs.listening.answer_gathered.Goals as goal

pub returns-clause-served : goal.returns-clause-served
returns-clause-served g c =
    let e = c.serve_telling-served.ensures in
    let own = ap (λ g. Some g.rest.now) c.new-reader.ensures.inner ∙ ap Some c.reader.ensures in
    served_by _ _ _ _ _ _ c.access_by-access.ensures (served_of _ _ _ _ _ _ _ _ _ _ _ _ own e.written e.stopped)
