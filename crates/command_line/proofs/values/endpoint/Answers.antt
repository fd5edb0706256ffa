use Rattle.std.proofs.Common.{◌≡◌, rules, codes, Some}
use Rattle.std.specs.Prelude.{IsErrAnd}
use Rattle.clap.specs.Matches.{found_of}
use Rattle.clap.specs.Walk.{rows_of}
use Rattle.command_line.specs.Asked.{IsGuarded}
use Rattle.command_line.proofs.AskedLaws.{reads_on}
use Rattle.command_line.proofs.values.endpoint.Goals as goal

pub returns-in_err-endpoint : goal.returns-in_err-endpoint
returns-in_err-endpoint c =
    let rows = rows_of (found_of c.args.values.now) in
    let same : IsErrAnd c.from_residual.result (λ g. g ≡ c.in_err-endpoint.field-0.0) = search rules in
    reads_on (IsGuarded rows (codes "listen")) c.from_residual.result c.in_err-endpoint.field-0.0 same c.in_err-endpoint.ensures.err (λ q. (Some q.0, q.1))
