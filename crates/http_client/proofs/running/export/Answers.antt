use Rattle.std.proofs.Common.{rules, inl, inr, refl, ◌≡◌, IsErrAnd}
use Rattle.std.proofs.lemmas.Result.{IfOk-weaker, IfErr-weaker}
use Rattle.intake.specs.declared.audience.Audience.TheVariants.{Partners}
use Rattle.commands.specs.declared.told.CommandError.{CommandError}
use Rattle.http_client.proofs.HaltLaws.{err_of, halted_alike, halted_by}
use Rattle.http_client.proofs.running.export.Goals as goal

pub returns-then-answer-ne404-clause-told : goal.returns-then-answer-ne404-clause-told
returns-then-answer-ne404-clause-told g c = IfOk-weaker c.tell_report.result _ _ (λ status told. inl (c.in_ok-answer.answer, c.in_ok-answer.ensures.brought, told)) c.tell_report.ensures.told

pub returns-then-answer-ne404-clause-halted : goal.returns-then-answer-ne404-clause-halted
returns-then-answer-ne404-clause-halted g c =
    IfErr-weaker c.tell_report.result _ _ (λ stop halts. inl (halted_by g.C.Courier.brings g.C.Courier.loses stop c.in_ok-answer.answer _ c.in_ok-answer.ensures.brought (inr (Partners, refl)) halts)) c.tell_report.ensures.halted

-- a server that shows the stock, but not as CSV, is one without clerks
pub returns-then-stock-eq200-clause-halted : goal.returns-then-stock-eq200-clause-halted
returns-then-stock-eq200-clause-halted g c = inr (
  c.in_ok-answer.answer,
  c.get.new.courier,
  search rules,
  c.in_ok-answer.ensures.brought,
  halted_by g.C.Courier.brings g.C.Courier.loses c.about_server_stop.result c.in_ok-stock.stock _ c.in_ok-stock.ensures.brought (inr (Partners, refl)) (rw c.in_ok-stock.ensures.heard (inr c.about_server_stop.ensures)),
)

pub returns-clause-told : goal.returns-clause-told
returns-clause-told g c =
    IfOk-weaker c.tell_report-2.result _ _ (λ status told. inr (c.in_ok-answer.answer, c.in_ok-stock.stock, c.get.new.courier, search rules, c.in_ok-answer.ensures.brought, c.in_ok-stock.ensures.brought, told)) c.tell_report-2.ensures.told

pub returns-clause-halted : goal.returns-clause-halted
returns-clause-halted g c =
    IfErr-weaker c.tell_report-2.result _ _ (λ stop halts. inr (
      c.in_ok-answer.answer,
      c.get.new.courier,
      search rules,
      c.in_ok-answer.ensures.brought,
      halted_by g.C.Courier.brings g.C.Courier.loses stop c.in_ok-stock.stock _ c.in_ok-stock.ensures.brought (inr (Partners, refl)) (halted_alike stop _ _ c.in_ok-answer.ensures.heard c.in_ok-stock.ensures.heard halts),
    )) c.tell_report-2.ensures.halted

pub returns-in_err-answer-clause-halted : goal.returns-in_err-answer-clause-halted
returns-in_err-answer-clause-halted g c =
    let same : IsErrAnd c.from_residual.result (λ (stop : CommandError). stop ≡ c.in_err-answer.field-0.0) = search rules in
    err_of _ c.from_residual.result c.in_err-answer.field-0.0 same (inl c.in_err-answer.ensures.halted)

pub returns-in_err-stock-clause-halted : goal.returns-in_err-stock-clause-halted
returns-in_err-stock-clause-halted g c =
    let same : IsErrAnd c.from_residual-in_err-stock.result (λ (stop : CommandError). stop ≡ c.in_err-stock.field-0.0) = search rules in
    err_of _ c.from_residual-in_err-stock.result c.in_err-stock.field-0.0 same
    (inr (c.in_ok-answer.answer, c.get.new.courier, search rules, c.in_ok-answer.ensures.brought, c.in_err-stock.ensures.halted))
