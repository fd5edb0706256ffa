use Rattle.std.proofs.Common.{ap, ◌∙◌, rules, tests}
use Rattle.std.specs.Prelude.{option_map}
use Rattle.std.proofs.lemmas.Iterator.{YieldsList-from_slice}
use Rattle.std.proofs.lemmas.Iterator.Search.{find_from_yields_List}
use Rattle.csv.specs.Records.{Row, fields_of}
use Rattle.sheet_texts.specs.Reasons.{has_pair}
use Rattle.sheet_texts.proofs.ReasonLaws.{find-map, option_map-twice}
use Rattle.sheet_texts.proofs.bad.row_of_pair.Goals as goal

pub returns : goal.returns
returns c =
    option_map-twice fields_of (λ row. row.now) c.find.result
    ∙ ap (option_map fields_of) (find_from_yields_List (λ (row : Row). has_pair c.args.item.now c.args.lot.now (fields_of row)) _ _ c.find.result c.find.ensures.ran (YieldsList-from_slice c.args.rows.now cc) (λ x b q k. search (rules, tests)))
    ∙ find-map fields_of (has_pair c.args.item.now c.args.lot.now) c.args.rows.now
