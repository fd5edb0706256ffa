use Rattle.std.proofs.Common.{◌≡◌, rules, subst, refl}
use Rattle.std.specs.Prelude.{IsErrAnd}
use Rattle.clap.specs.Matches.{found_of}
use Rattle.clap.specs.Walk.{Text, rows_of}
use Rattle.command_line.specs.Asked.{HasAll}
use Rattle.command_line.proofs.AskedLaws.{handed}
use Rattle.command_line.proofs.reading.act_of.Goals as goal

pub returns-in_err-given-in-enrol-clause-err : goal.returns-in_err-given-in-enrol-clause-err
returns-in_err-given-in-enrol-clause-err c =
    let same : IsErrAnd c.from_residual.result (λ g. g ≡ c.in_err-given-in-enrol.field-0.0) = search rules in
    handed c.from_residual.result c.in_err-given-in-enrol.field-0.0 same c.in_err-given-in-enrol.ensures.err (λ all. (subst (λ (n : Text). HasAll (n, rows_of (found_of c.args.values.now))) c.in-enrol.is all).0 refl)

pub returns-in_err-given-in-roster-clause-err : goal.returns-in_err-given-in-roster-clause-err
returns-in_err-given-in-roster-clause-err c =
    let same : IsErrAnd c.from_residual-in_err-given-in-roster.result (λ g. g ≡ c.in_err-given-in-roster.field-0.0) = search rules in
    handed c.from_residual-in_err-given-in-roster.result c.in_err-given-in-roster.field-0.0 same c.in_err-given-in-roster.ensures.err (λ all. (subst (λ (n : Text). HasAll (n, rows_of (found_of c.args.values.now))) c.in-roster.is all).0 refl)

pub returns-in_err-given-in-send-clause-err : goal.returns-in_err-given-in-send-clause-err
returns-in_err-given-in-send-clause-err c =
    let same : IsErrAnd c.from_residual-in_err-given-in-send.result (λ g. g ≡ c.in_err-given-in-send.field-0.0) = search rules in
    handed c.from_residual-in_err-given-in-send.result c.in_err-given-in-send.field-0.0 same c.in_err-given-in-send.ensures.err (λ all. (subst (λ (n : Text). HasAll (n, rows_of (found_of c.args.values.now))) c.in-send.is all).0 refl)

pub returns-in_err-given-in-take-clause-err : goal.returns-in_err-given-in-take-clause-err
returns-in_err-given-in-take-clause-err c =
    let same : IsErrAnd c.from_residual-in_err-given-in-take.result (λ g. g ≡ c.in_err-given-in-take.field-0.0) = search rules in
    handed c.from_residual-in_err-given-in-take.result c.in_err-given-in-take.field-0.0 same c.in_err-given-in-take.ensures.err (λ all. (subst (λ (n : Text). HasAll (n, rows_of (found_of c.args.values.now))) c.in-take.is all).0 refl)
