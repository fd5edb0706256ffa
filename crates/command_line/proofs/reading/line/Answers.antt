use Rattle.std.proofs.Common.{◌≡◌, ap, sym, subst, ◌∙◌, map, true, false, Bor, List, ℕ, Option, None, Some, option_map, unwrap_or}
use Rattle.std.proofs.lemmas.Result.{IfOk-weaker}
use Rattle.clap.specs.Matches.{found_of}
use Rattle.clap.specs.Walk.{Row, rows_of}
use Rattle.clap.specs.declared.parser.matches.ArgMatches.TheViews.{out-ArgMatches}
use Rattle.command_line.specs.Asked.{Found, Says, stands_first}
use Rattle.command_line.proofs.AskedLaws.{lacks_from}
use Rattle.command_line.proofs.LineLaws.{both_found}
use Rattle.command_line.proofs.reading.line.Goals as goal

pub returns-clause-ok : goal.returns-clause-ok
returns-clause-ok c =
    let alike = c.in_ok-parser_of.ensures in
    let found = rows_of (found_of c.in-Some.values.now) in
    let met = (c.in-Ok.ensures.matches alike.simple).1 ∙ alike.found in
    let named = both_found (out-ArgMatches c.in-Ok.matches).subcommand c.in-Some.name.now found c.in-Some.ensures.name c.in-Some.ensures.rows in
    IfOk-weaker c.asked.result _ _
    (λ asked h. record {
      found = (c.in-Some.name.now, found);
      named = sym met ∙ named;
      first = sym c.stands_first.ensures ∙ c.if-not-stands_first.false;
      says = h;
    }) c.asked.ensures.ok

pub returns-clause-err : goal.returns-clause-err
returns-clause-err c =
    let alike = c.in_ok-parser_of.ensures in
    let found = rows_of (found_of c.in-Some.values.now) in
    let met = (c.in-Ok.ensures.matches alike.simple).1 ∙ alike.found in
    let named = both_found (out-ArgMatches c.in-Ok.matches).subcommand c.in-Some.name.now found c.in-Some.ensures.name c.in-Some.ensures.rows in
    lacks_from c.asked.result c.asked.ensures.err (λ q.
    let same : q.2.found ≡ (c.in-Some.name.now, found) = ap (λ (o : Option Found). unwrap_or o q.2.found) (sym q.2.named ∙ (sym met ∙ named)) in
    (q.1, subst (λ (f : Found). Says c.args.place f q.1) same q.2.says))

pub returns-in-Err-clause-err : goal.returns-in-Err-clause-err
returns-in-Err-clause-err c = λ q.
    let alike = c.in_ok-parser_of.ensures in
    let taken = alike.taken ∙ q.0 in
    c.refused.ensures (c.in-Err.ensures.passes taken)

-- The line names no subcommand, and what can be read names one.
pub returns-in_default-clause-err : goal.returns-in_default-clause-err
returns-in_default-clause-err c = λ q.
    let alike = c.in_ok-parser_of.ensures in
    let met = (c.in-Ok.ensures.matches alike.simple).1 ∙ alike.found in
    let d : ◌≡◌ {A = Option (List Row)} None (Some q.2.found.1) =
    c.in_default.ensures.rows ∙ ap (option_map (λ (f : Found). f.1)) (met ∙ q.2.named) in absurd (cc)

-- The subcommand's name isn't the first word, and in what can be read it is.
pub returns-then-not-stands_first-clause-err : goal.returns-then-not-stands_first-clause-err
returns-then-not-stands_first-clause-err c = λ q.
    let words = map (λ (w : Bor (List ℕ)). w.now) c.args.words.now in
    let alike = c.in_ok-parser_of.ensures in
    let found = rows_of (found_of c.in-Some.values.now) in
    let met = (c.in-Ok.ensures.matches alike.simple).1 ∙ alike.found in
    let named = both_found (out-ArgMatches c.in-Ok.matches).subcommand c.in-Some.name.now found c.in-Some.ensures.name c.in-Some.ensures.rows in
    let same : q.2.found ≡ (c.in-Some.name.now, found) = ap (λ (o : Option Found). unwrap_or o q.2.found) (sym q.2.named ∙ (sym met ∙ named)) in
    let d : false ≡ true = sym c.if-not-stands_first.true ∙ c.stands_first.ensures
    ∙ ap (λ (f : Found). stands_first f.0 words) (sym same) ∙ q.2.first in absurd (cc)
