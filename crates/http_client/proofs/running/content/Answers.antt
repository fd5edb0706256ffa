use Rattle.std.proofs.Common.{rules, inl, inr, refl, ◌≡◌, IsErrAnd}
use Rattle.std.proofs.lemmas.Result.{IfOk-weaker, IfErr-weaker}
use Rattle.intake.specs.declared.audience.Audience.TheVariants.{Partners}
use Rattle.commands.specs.declared.told.CommandError.{CommandError}
use Rattle.http_client.proofs.HaltLaws.{err_of, halted_by}
use Rattle.http_client.proofs.running.content.Goals as goal

pub returns-then-answer-ne404-clause-told : goal.returns-then-answer-ne404-clause-told
returns-then-answer-ne404-clause-told g c = IfOk-weaker c.tell_document.result _ _ (λ status told. inl (c.in_ok-answer.answer, c.in_ok-answer.ensures.brought, told)) c.tell_document.ensures.told

pub returns-then-answer-ne404-clause-halted : goal.returns-then-answer-ne404-clause-halted
returns-then-answer-ne404-clause-halted g c =
    IfErr-weaker c.tell_document.result _ _ (λ stop halts. inl (halted_by g.C.Courier.brings g.C.Courier.loses stop c.in_ok-answer.answer _ c.in_ok-answer.ensures.brought (inl refl) halts)) c.tell_document.ensures.halted

pub returns-in-Done-clause-told : goal.returns-in-Done-clause-told
returns-in-Done-clause-told g c = inr (c.in_ok-answer.answer, c.in_ok-list.list, c.get_text.new.courier, search rules, c.in_ok-answer.ensures.brought, c.in_ok-list.ensures.brought, inr (search rules, refl))

pub returns-clause-told : goal.returns-clause-told
returns-clause-told g c =
    IfOk-weaker c.tell_report.result _ _ (λ status told. inr (c.in_ok-answer.answer, c.in_ok-list.list, c.get_text.new.courier, search rules, c.in_ok-answer.ensures.brought, c.in_ok-list.ensures.brought, inl told)) c.tell_report.ensures.told

pub returns-clause-halted : goal.returns-clause-halted
returns-clause-halted g c =
    IfErr-weaker c.tell_report.result _ _ (λ stop halts. inr (
      c.in_ok-answer.answer,
      c.get_text.new.courier,
      search rules,
      c.in_ok-answer.ensures.brought,
      halted_by g.C.Courier.brings g.C.Courier.loses stop c.in_ok-list.list _ c.in_ok-list.ensures.brought (inr (Partners, refl)) halts,
    )) c.tell_report.ensures.halted

pub returns-in_err-answer-clause-halted : goal.returns-in_err-answer-clause-halted
returns-in_err-answer-clause-halted g c =
    let same : IsErrAnd c.from_residual.result (λ (stop : CommandError). stop ≡ c.in_err-answer.field-0.0) = search rules in
    err_of _ c.from_residual.result c.in_err-answer.field-0.0 same (inl c.in_err-answer.ensures.halted)

pub returns-in_err-list-clause-halted : goal.returns-in_err-list-clause-halted
returns-in_err-list-clause-halted g c =
    let same : IsErrAnd c.from_residual-in_err-list.result (λ (stop : CommandError). stop ≡ c.in_err-list.field-0.0) = search rules in
    err_of _ c.from_residual-in_err-list.result c.in_err-list.field-0.0 same
    (inr (c.in_ok-answer.answer, c.get_text.new.courier, search rules, c.in_ok-answer.ensures.brought, c.in_err-list.ensures.halted))
