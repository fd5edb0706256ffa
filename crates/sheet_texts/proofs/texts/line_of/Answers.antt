use Rattle.std.proofs.Common.{◌≡◌, Some, length, ap, sym, ◌∙◌, rules}
use Rattle.csv.specs.Records.{fields_of}
use Rattle.sheet_texts.specs.Texts.{field_of}
use Rattle.sheet_texts.proofs.LineLaws.{three_fields}
use Rattle.sheet_texts.proofs.texts.line_of.Goals as goal

pub returns : goal.returns
returns c =
    let fields = fields_of c.args.row.now in
    let three : length fields ≡ 3 = search rules in
    let item : c.in_ok-to_vec.field-0.items ≡ field_of fields 0 = search rules in
    let lot : c.in_ok-to_vec-2.field-0.items ≡ field_of fields 1 = search rules in
    let quantity : c.in_ok-to_vec-3.field-0.items ≡ field_of fields 2 = search rules in
    ap Some (c.new.ensures ∙ (λ i. record { item = item i; lot = lot i; quantity = quantity i })) ∙ sym (three_fields fields three)
