use Rattle.std.proofs.Common.{◌≡◌, true, false, map, refl, sym, ◌∙◌, Bor}
use Rattle.std.specs.List.{list_any}
use Rattle.csv.specs.Records.{Row, fields_of}
use Rattle.sheet_texts.specs.Reasons.{has_pair, is_repeated}
use Rattle.sheet_texts.proofs.ReasonLaws.{is_found}
use Rattle.sheet_texts.proofs.bad.repeated_in.Goals as goal

pub returns-then-is_some : goal.returns-then-is_some
returns-then-is_some c =
    let looked = is_found (λ (row : Bor Row). fields_of row.now) c.row_of_pair.result (has_pair c.field.result.now c.field-2.result.now) (map fields_of c.args.before.now) c.row_of_pair.ensures in
    let found : list_any (has_pair c.field.result.now c.field-2.result.now) (map fields_of c.args.before.now) ≡ true = sym looked ∙ (sym c.is_some.ensures ∙ c.if-is_some.true) in
    let stands : is_repeated (map fields_of c.args.before.now) (fields_of c.args.row.now) ≡ true = rw (c.field.ensures, c.field-2.ensures) at found in
    rw stands refl

pub returns-else-is_some : goal.returns-else-is_some
returns-else-is_some c =
    let looked = is_found (λ (row : Bor Row). fields_of row.now) c.row_of_pair.result (has_pair c.field.result.now c.field-2.result.now) (map fields_of c.args.before.now) c.row_of_pair.ensures in
    let found : list_any (has_pair c.field.result.now c.field-2.result.now) (map fields_of c.args.before.now) ≡ false = sym looked ∙ (sym c.is_some.ensures ∙ c.if-is_some.false) in
    let stands : is_repeated (map fields_of c.args.before.now) (fields_of c.args.row.now) ≡ false = rw (c.field.ensures, c.field-2.ensures) at found in
    rw stands refl
