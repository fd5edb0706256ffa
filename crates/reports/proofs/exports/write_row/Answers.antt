use Rattle.std.proofs.Common.{◌≡◌, ◌++◌, ◌∷◌, [], subst, rules}
use Rattle.definitions.specs.Rules.{Today}
use Rattle.definitions.specs.Reports.{stock_record, csv_record}
use Rattle.reports.specs.Exports.{HoldsText}
use Rattle.reports.proofs.WriterLaws.{holds_more}
use Rattle.reports.proofs.exports.write_row.Goals as goal

pub returns : goal.returns
returns c = λ text h.
    let wrote = c.in_ok-write_fields.ensures in
    let fields = c.expiry_text.result.now ∷ c.as_bytes.result.now ∷ c.as_bytes-2.result.now ∷ c.as_bytes-3.result.now ∷ c.as_bytes-4.result.now ∷ [] in
    let more = holds_more c.args.writer.now c.write_fields.new.self text c.deref.result.now c.deref-2.result.now fields h wrote.bytes wrote.ended wrote.clean wrote.setup in
    let told : csv_record (c.deref.result.now ∷ c.deref-2.result.now ∷ fields) ≡ stock_record Today c.args.row.now = search rules in
    subst (λ t. HoldsText c.write_fields.new.self (text ++ t)) told more
