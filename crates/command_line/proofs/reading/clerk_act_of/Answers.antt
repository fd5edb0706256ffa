use Rattle.std.proofs.Common.{◌≡◌, rules, subst}
use Rattle.std.specs.Prelude.{IsErrAnd}
use Rattle.clap.specs.Matches.{found_of}
use Rattle.clap.specs.Walk.{Text, rows_of}
use Rattle.command_line.specs.Asked.{HasAll}
use Rattle.command_line.proofs.AskedLaws.{handed}
use Rattle.command_line.proofs.reading.clerk_act_of.Goals as goal

pub returns-in_err-words_of-in-count-clause-err : goal.returns-in_err-words_of-in-count-clause-err
returns-in_err-words_of-in-count-clause-err c =
    let same : IsErrAnd c.from_residual.result (λ g. g ≡ c.in_err-words_of-in-count.field-0.0) = search rules in
    handed c.from_residual.result c.in_err-words_of-in-count.field-0.0 same c.in_err-words_of-in-count.ensures.err (λ all. (subst (λ (n : Text). HasAll (n, rows_of (found_of c.args.values.now))) c.in-count.is all))

pub returns-in_err-words_of-in-pick-clause-err : goal.returns-in_err-words_of-in-pick-clause-err
returns-in_err-words_of-in-pick-clause-err c =
    let same : IsErrAnd c.from_residual-in_err-words_of-in-pick.result (λ g. g ≡ c.in_err-words_of-in-pick.field-0.0) = search rules in
    handed c.from_residual-in_err-words_of-in-pick.result c.in_err-words_of-in-pick.field-0.0 same c.in_err-words_of-in-pick.ensures.err (λ all. (subst (λ (n : Text). HasAll (n, rows_of (found_of c.args.values.now))) c.in-pick.is all))

pub returns-in_err-words_of-in-recount-clause-err : goal.returns-in_err-words_of-in-recount-clause-err
returns-in_err-words_of-in-recount-clause-err c =
    let same : IsErrAnd c.from_residual-in_err-words_of-in-recount.result (λ g. g ≡ c.in_err-words_of-in-recount.field-0.0) = search rules in
    handed c.from_residual-in_err-words_of-in-recount.result c.in_err-words_of-in-recount.field-0.0 same c.in_err-words_of-in-recount.ensures.err (λ all. (subst (λ (n : Text). HasAll (n, rows_of (found_of c.args.values.now))) c.in-recount.is all))
