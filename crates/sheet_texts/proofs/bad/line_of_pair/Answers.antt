use Rattle.std.proofs.Common.{◌≡◌, map, ap, ◌∙◌, Bor, rules}
use Rattle.std.specs.Prelude.{is_some, find}
use Rattle.csv.specs.Records.{Row, fields_of}
use Rattle.sheet_texts.specs.Reasons.{has_pair, first_records}
use Rattle.sheet_texts.proofs.ReasonLaws.{is_found}
use Rattle.sheet_texts.proofs.bad.line_of_pair.Goals as goal

pub returns : goal.returns
returns c =
    let same : is_some c.map.result ≡ is_some c.row_of_pair.result = let h = c.map.ensures.variant in search rules in
    let rows : map fields_of c.deref.result.now ≡ first_records c.args.text.now = ap (map fields_of) c.deref.ensures.value ∙ c.in_ok-rows.ensures in
    same
    ∙ is_found (λ (row : Bor Row). fields_of row.now) c.row_of_pair.result (has_pair c.args.item.now c.args.lot.now) (first_records c.args.text.now)
    (c.row_of_pair.ensures ∙ ap (find (has_pair c.args.item.now c.args.lot.now)) rows)
