use Rattle.std.proofs.Common.{◌≡◌, true, ◌∙◌, rules}
use Rattle.std.proofs.lemmas.Result.{IfOk-weaker}
use Rattle.csv.specs.Records.{fields_of}
use Rattle.definitions.specs.Bytes.{is_identifier}
use Rattle.definitions.specs.Limits.{most_item, most_lot}
use Rattle.sheet_texts.specs.Texts.{field_of}
use Rattle.sheet_texts.proofs.ToldLaws.{told_with}
use Rattle.sheet_texts.proofs.bad.told_of.Goals as goal

pub returns : goal.returns
returns c =
    let fields = fields_of c.args.row.now in
    let item : is_identifier 1 most_item (field_of fields 0) ≡ true = search rules in
    let lot : is_identifier 1 most_lot (field_of fields 1) ≡ true = search rules in
    let first : c.text_of.result.now ≡ field_of fields 0 = c.text_of.ensures ∙ c.field-item.ensures in
    let second : c.text_of-2.result.now ≡ field_of fields 1 = c.text_of-2.ensures ∙ c.field-lot.ensures in
    IfOk-weaker c.concat.result _ _ (λ text h. h ∙ told_with fields c.args.why.now c.text_of.result.now c.text_of-2.result.now item lot first second) c.concat.ensures.ok
