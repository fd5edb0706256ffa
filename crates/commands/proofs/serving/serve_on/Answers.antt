use Rattle.std.proofs.lemmas.Result.{on_ok_weaker, on_err_weaker}
use Rattle.commands.proofs.ServedAlike.{served_alike}
use Rattle.commands.proofs.ServingLaws.{came}
use Rattle.commands.proofs.serving.serve_on.Goals as goal

pub returns-clause-served : goal.returns-clause-served
returns-clause-served g c = on_ok_weaker c.serve_asking.result (λ h. (h.0, h.1, h.2, came _ _ _ _ _ _ _ _ _ _ _ (served_alike c.args.service.now c.access_of.result c.access_of.ensures) h.3)) c.serve_asking.ensures.served

pub returns-clause-ended : goal.returns-clause-ended
returns-clause-ended g c = on_err_weaker c.serve_asking.result (λ h. (h.0, h.1, h.2, came _ _ _ _ _ _ _ _ _ _ _ (served_alike c.args.service.now c.access_of.result c.access_of.ensures) h.3)) c.serve_asking.ensures.ended
