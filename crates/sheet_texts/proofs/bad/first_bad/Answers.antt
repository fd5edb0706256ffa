use Rattle.std.proofs.Common.{◌≡◌, ℕ, true, false, List, map, ap, sym, ◌∙◌}
use Rattle.std.specs.Prelude.{is_some}
use Rattle.csv.specs.Records.{fields_of}
use Rattle.sheet_texts.specs.Texts.{records_of}
use Rattle.sheet_texts.specs.Reasons.{first_reason, first_records}
use Rattle.sheet_texts.proofs.ReasonLaws.{is_some-option_map}
use Rattle.sheet_texts.proofs.RefusedLaws.{refused_reason}
use Rattle.sheet_texts.proofs.bad.first_bad.Goals as goal

-- a text that makes no sheet has a reason, which would have been found
pub returns-in_default-clause-refused : goal.returns-in_default-clause-refused
returns-in_default-clause-refused c h =
    let kind = c.args.kind in
    let read = map fields_of c.deref.result.now in
    let rows : read ≡ first_records c.args.text.now = ap (map fields_of) c.deref.ensures.value ∙ c.in_ok-rows.ensures in
    let none : is_some (first_reason kind c.args.refusal read) ≡ false =
    sym (is_some-option_map (λ (p : List (List (List ℕ)) × List (List ℕ)). p.1) (first_reason kind c.args.refusal read)) ∙ ap is_some (sym c.in_default.ensures.row) in
    let reason : is_some (first_reason kind c.args.refusal read) ≡ true =
    ap (λ rs. is_some (first_reason kind c.args.refusal rs)) rows
    ∙ refused_reason kind (records_of c.args.text.now) c.args.refusal h in
    sym none ∙ reason
