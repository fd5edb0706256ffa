use Rattle.std.proofs.Common.{inr, refl}
use Rattle.std.proofs.lemmas.Result.{IfOk-weaker, IfErr-weaker}
use Rattle.http_client.proofs.HaltLaws.{halted_by}
use Rattle.http_client.proofs.running.report.Goals as goal

pub returns-clause-told : goal.returns-clause-told
returns-clause-told g c = IfOk-weaker c.tell_report.result _ _ (λ status told. (c.in_ok-answer.answer, c.in_ok-answer.ensures.brought, told)) c.tell_report.ensures.told

pub returns-clause-halted : goal.returns-clause-halted
returns-clause-halted g c =
    IfErr-weaker c.tell_report.result _ _ (λ stop halts. halted_by g.C.Courier.brings g.C.Courier.loses stop c.in_ok-answer.answer _ c.in_ok-answer.ensures.brought (inr (c.args.shown, refl)) halts) c.tell_report.ensures.halted
