use Rattle.std.proofs.Common.{◌≡◌, rules, sym, ap, subst, ◌∙◌, codes, List, Option, None, Some, unwrap_or}
use Rattle.std.specs.Prelude.{IsErrAnd}
use Rattle.clap.specs.Matches.{found_of}
use Rattle.clap.specs.Walk.{Row, Text, first_of, rows_of}
use Rattle.clap.proofs.WalkLemmas.{first_value-rows}
use Rattle.command_line.specs.Asked.{SaysServer, IsEndpointText}
use Rattle.command_line.specs.declared.words.Endpoint.{Endpoint}
use Rattle.command_line.proofs.AskedLaws.{reads_on}
use Rattle.command_line.proofs.values.server.Goals as goal

pub returns-in_default : goal.returns-in_default
returns-in_default c = record {
  ok = sym (first_value-rows (found_of c.args.values.now) (codes "server")) ∙ sym c.in_default.ensures;
  err = tt;
}

pub returns : goal.returns
returns c = record {
  ok =
      let has = sym (first_value-rows (found_of c.args.values.now) (codes "server")) ∙ sym c.in-Some.ensures in
      (c.in-Some.text.now, has, c.in_ok-endpoint.ensures.ok);
  err = tt;
}

-- what the one text under `--server` writes
asked_at : (rows : List Row) (text : Text) (s : Option Endpoint) → first_of (codes "server") rows ≡ Some text → SaysServer rows s
    → (a : Endpoint) × IsEndpointText text a
asked_at rows text None has says = absurd (let d : ◌≡◌ {A = Option Text} None (Some text) = sym says ∙ has in cc)
asked_at rows text (Some a) has says =
    let same : says.0 ≡ text = ap (λ (o : Option Text). unwrap_or o text) (sym says.1 ∙ has) in
    (a, subst (λ (x : Text). IsEndpointText x a) same says.2)

pub returns-in_err-endpoint : goal.returns-in_err-endpoint
returns-in_err-endpoint c =
    let rows = rows_of (found_of c.args.values.now) in
    let has = sym (first_value-rows (found_of c.args.values.now) (codes "server")) ∙ sym c.in-Some.ensures in
    let same : IsErrAnd c.from_residual.result (λ g. g ≡ c.in_err-endpoint.field-0.0) = search rules in
    reads_on (SaysServer rows) c.from_residual.result c.in_err-endpoint.field-0.0 same c.in_err-endpoint.ensures.err (λ q. asked_at rows c.in-Some.text.now q.0 has q.1)
