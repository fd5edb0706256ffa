use Rattle.std.proofs.Common.{inl, refl, rules, ◌≡◌, IsErrAnd}
use Rattle.commands.specs.declared.told.CommandError.{CommandError}
use Rattle.http_client.proofs.HaltLaws.{device_halts, err_of, halted_by}
use Rattle.http_client.proofs.running.try_post.Goals as goal

pub returns-in_err-status-clause-halted : goal.returns-in_err-status-clause-halted
returns-in_err-status-clause-halted g c =
    let same : IsErrAnd c.from_residual.result (λ (stop : CommandError). stop ≡ c.in_err-status.field-0.0) = search rules in
    err_of _ c.from_residual.result c.in_err-status.field-0.0 same c.in_err-status.ensures.halted

pub returns-in_err-tell_tried-clause-halted : goal.returns-in_err-tell_tried-clause-halted
returns-in_err-tell_tried-clause-halted g c =
    let told = c.in_ok-status.ensures.told in
    let same : IsErrAnd c.from_residual-in_err-tell_tried.result (λ (stop : CommandError). stop ≡ c.in_err-tell_tried.field-0.0) = search rules in
    err_of _ c.from_residual-in_err-tell_tried.result c.in_err-tell_tried.field-0.0 same
    (halted_by g.C.Courier.brings g.C.Courier.loses c.in_err-tell_tried.field-0.0 told.0 _ told.1 (inl refl)
    (device_halts c.in_err-tell_tried.field-0.0 _ _ told.2.says c.in_err-tell_tried.ensures.halted))
