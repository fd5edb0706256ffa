use Rattle.std.proofs.Common.{inl, refl, rules}
use Rattle.std.proofs.lemmas.Result.{IfOk-weaker, IfErr-weaker}
use Rattle.http_client.proofs.HaltLaws.{halted_by}
use Rattle.http_client.specs.declared.answers.HeardAs.TheVariants.{Stopped}
use Rattle.http_client.proofs.running.post.Goals as goal

pub returns-in-Stopped-clause-halted : goal.returns-in-Stopped-clause-halted
returns-in-Stopped-clause-halted g c =
    halted_by g.C.Courier.brings g.C.Courier.loses c.about_server_stop.result c.in_ok-answer.answer (Stopped c.in-Stopped.fault) c.in_ok-answer.ensures.brought (inl (search rules)) c.about_server_stop.ensures

pub returns-clause-told : goal.returns-clause-told
returns-clause-told g c = IfOk-weaker c.tell_document.result _ _ (λ status told. (c.in_ok-answer.answer, c.in_ok-answer.ensures.brought, told)) c.tell_document.ensures.told

pub returns-clause-halted : goal.returns-clause-halted
returns-clause-halted g c =
    IfErr-weaker c.tell_document.result _ _ (λ stop halts. halted_by g.C.Courier.brings g.C.Courier.loses stop c.in_ok-answer.answer _ c.in_ok-answer.ensures.brought (inl refl) halts) c.tell_document.ensures.halted
