use Rattle.std.proofs.Common.{inr, rules}
use Rattle.http_client.proofs.HaltLaws.{halted_by}
use Rattle.http_client.specs.declared.answers.HeardAs.TheVariants.{Stopped}
use Rattle.http_client.proofs.running.get.Goals as goal

pub returns-in-Stopped-clause-halted : goal.returns-in-Stopped-clause-halted
returns-in-Stopped-clause-halted g c =
    halted_by g.C.Courier.brings g.C.Courier.loses c.about_server_stop.result c.in_ok-answer.answer (Stopped c.in-Stopped.fault) c.in_ok-answer.ensures.brought (inr (c.args.shown, search rules)) c.about_server_stop.ensures
