use Rattle.std.proofs.Common.{◌≡◌, rules, subst, refl}
use Rattle.std.specs.Prelude.{IsErrAnd}
use Rattle.clap.specs.Matches.{found_of}
use Rattle.clap.specs.Walk.{Text, rows_of}
use Rattle.command_line.specs.Asked.{HasAll}
use Rattle.command_line.proofs.AskedLaws.{handed}
use Rattle.command_line.proofs.reading.show_of.Goals as goal

pub returns-in_err-given-in-stock-clause-err : goal.returns-in_err-given-in-stock-clause-err
returns-in_err-given-in-stock-clause-err c =
    let same : IsErrAnd c.from_residual.result (λ g. g ≡ c.in_err-given-in-stock.field-0.0) = search rules in
    handed c.from_residual.result c.in_err-given-in-stock.field-0.0 same c.in_err-given-in-stock.ensures.err (λ all. (subst (λ (n : Text). HasAll (n, rows_of (found_of c.args.values.now))) c.in-stock.is all.0).0 refl)

pub returns-in_err-given-in-open-clause-err : goal.returns-in_err-given-in-open-clause-err
returns-in_err-given-in-open-clause-err c =
    let same : IsErrAnd c.from_residual-in_err-given-in-open.result (λ g. g ≡ c.in_err-given-in-open.field-0.0) = search rules in
    handed c.from_residual-in_err-given-in-open.result c.in_err-given-in-open.field-0.0 same c.in_err-given-in-open.ensures.err (λ all. (subst (λ (n : Text). HasAll (n, rows_of (found_of c.args.values.now))) c.in-open.is all.0).0 refl)

pub returns-in_err-given-in-orders-clause-err : goal.returns-in_err-given-in-orders-clause-err
returns-in_err-given-in-orders-clause-err c =
    let same : IsErrAnd c.from_residual-in_err-given-in-orders.result (λ g. g ≡ c.in_err-given-in-orders.field-0.0) = search rules in
    handed c.from_residual-in_err-given-in-orders.result c.in_err-given-in-orders.field-0.0 same c.in_err-given-in-orders.ensures.err (λ all. (subst (λ (n : Text). HasAll (n, rows_of (found_of c.args.values.now))) c.in-orders.is all.0).0 refl)

pub returns-in_err-given-in-orders-2-clause-err : goal.returns-in_err-given-in-orders-2-clause-err
returns-in_err-given-in-orders-2-clause-err c =
    let same : IsErrAnd c.from_residual-in_err-given-in-orders-2.result (λ g. g ≡ c.in_err-given-in-orders-2.field-0.0) = search rules in
    handed c.from_residual-in_err-given-in-orders-2.result c.in_err-given-in-orders-2.field-0.0 same c.in_err-given-in-orders-2.ensures.err (λ all. (subst (λ (n : Text). HasAll (n, rows_of (found_of c.args.values.now))) c.in-orders.is all.0).1.0 refl)

pub returns-in_err-show-in-outbox-clause-err : goal.returns-in_err-show-in-outbox-clause-err
returns-in_err-show-in-outbox-clause-err c =
    let same : IsErrAnd c.from_residual-in_err-show-in-outbox.result (λ g. g ≡ c.in_err-show-in-outbox.field-0.0) = search rules in
    handed c.from_residual-in_err-show-in-outbox.result c.in_err-show-in-outbox.field-0.0 same c.in_err-show-in-outbox.ensures.err
    (λ all. let has = subst (λ (n : Text). HasAll (n, rows_of (found_of c.args.values.now))) c.in-outbox.is all.0 in let rest = all.1 c.in-outbox.is in (has, rest.0, rest.1))
