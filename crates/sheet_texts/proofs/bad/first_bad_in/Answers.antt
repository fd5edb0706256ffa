use Rattle.std.proofs.Common.{◌≡◌, ℕ, List, Some, None, take, map, ap, sym, ◌∙◌, refl}
use Rattle.std.specs.Prelude.{option_map}
use Rattle.csv.specs.Records.{fields_of}
use Rattle.sheet_texts.specs.Reasons.{is_reason, reason_text, where_so}
use Rattle.sheet_texts.proofs.ReasonLaws.{at_map, reason_here, reason_next}
use Rattle.sheet_texts.proofs.bad.first_bad_in.Goals as goal

pub returns-in-Some : goal.returns-in-Some
returns-in-Some c =
    let rows = map fields_of c.args.rows.now in
    let fields = fields_of c.index-rows-at.result in
    let place = at_map fields_of c.args.rows.now c.loop-at.at c.index-rows-at.result c.loop-at-test.true c.index-rows-at.is in
    let told : Some c.in-Some.why.now ≡ where_so (is_reason c.args.kind (take c.loop-at.at rows) fields c.args.refusal) (reason_text c.args.kind fields c.args.refusal) = rw place.2 c.in-Some.ensures in
    let found = reason_here c.args.kind c.args.refusal rows c.loop-at.at fields c.in-Some.why.now place.0 place.1 c.loop-at.invariant told in
    record {
      row = rw found.0 refl;
      why = ap Some found.1 ∙ sym (ap (option_map (λ (p : List (List (List ℕ)) × List (List ℕ)). reason_text c.args.kind p.1 c.args.refusal)) found.0);
    }

pub loop-at-preserved : goal.loop-at-preserved
loop-at-preserved c =
    let rows = map fields_of c.args.rows.now in
    let fields = fields_of c.index-rows-at.result in
    let place = at_map fields_of c.args.rows.now c.loop-at.at c.index-rows-at.result c.loop-at-test.true c.index-rows-at.is in
    let told : None ≡ where_so (is_reason c.args.kind (take c.loop-at.at rows) fields c.args.refusal) (reason_text c.args.kind fields c.args.refusal) = rw place.2 c.in_default.ensures in
    reason_next c.args.kind c.args.refusal rows c.loop-at.at fields place.0 place.1 c.loop-at.invariant told
