use Rattle.std.proofs.Common.{◌≡◌, ◌<◌, ◌≤◌, ◌+◌, ℕ, List, true, map, length, take, ap, sym, subst, ◌∙◌, Result, Ok, Err, IfErr, IsErrAnd, rules, arith}
use Rattle.std.proofs.lemmas.List.{length-map}
use Rattle.csv.specs.Records.{fields_of}
use Rattle.definitions.specs.declared.refusals.Refusal.{Refusal}
use Rattle.definitions.specs.Rules.{Today}
use Rattle.definitions.specs.Limits.{most_lines}
use Rattle.sheet_texts.specs.Texts.{records_of}
use Rattle.sheet_texts.proofs.LineLaws.{too_many, uneven, is_uneven, of_lines}
use Rattle.unready.specs.Refused.{IfRefused}
use Rattle.unready.specs.declared.Unready.{Unready}
use Rattle.unready.specs.declared.Unready.TheVariants.{Refused}
use Rattle.sheet_texts.proofs.texts.sheet.Goals as goal

pub returns-then-len-from-clause-err : goal.returns-then-len-from-clause-err
returns-then-len-from-clause-err c =
    let many : most_lines Today < length (take (most_lines Today + 1) (records_of c.args.text.now)) = omega (arith, c.len.ensures, c.from.ensures, c.if-len-from.true, length-map c.in_ok-rows.rows.items fields_of, ap (λ (zs : List (List (List ℕ))). length zs) c.in_ok-rows.ensures) in
    too_many Today c.args.kind (records_of c.args.text.now) many

pub returns-in_default-clause-err : goal.returns-in_default-clause-err
returns-in_default-clause-err c =
    let rows = map fields_of c.in_ok-rows.rows.items in
    let few : length rows ≤ most_lines Today = omega (arith, c.len.ensures, c.from.ensures, c.if-len-from.false, length-map c.in_ok-rows.rows.items fields_of) in
    let bad : is_uneven rows ≡ true = search rules in
    uneven Today c.args.kind (records_of c.args.text.now) rows c.in_ok-rows.ensures few bad

pub returns-clause-ok : goal.returns-clause-ok
returns-clause-ok c = of_lines c.args.kind c.args.text.now c.in_ok-rows.rows.items c.in-Some.lines.items c.in_ok-rows.ensures (omega (arith, c.len.ensures, c.from.ensures, c.if-len-from.false)) (search rules) (search rules)
    ∙ c.in_ok-new.ensures.ok

-- a refusal that is handed on
refused : {X : Type 0} (r : Result X Unready) (refusal : Refusal) (P : Refusal → Type 0) → IsErrAnd r (λ why. why ≡ Refused refusal) → P refusal → IfErr r (IfRefused P)
refused (Ok x) refusal P why so = tt
refused (Err u) refusal P why so = subst (IfRefused P) (sym why) so

pub returns-in_err-new-clause-err : goal.returns-in_err-new-clause-err
returns-in_err-new-clause-err c =
    refused c.from_residual-in_err-new.result c.in_err-new.field-0.0 _ c.from_residual-in_err-new.ensures.1
    (of_lines c.args.kind c.args.text.now c.in_ok-rows.rows.items c.in-Some.lines.items c.in_ok-rows.ensures (omega (arith, c.len.ensures, c.from.ensures, c.if-len-from.false)) (search rules) (search rules)
    ∙ c.in_err-new.ensures.err)
