use Rattle.std.proofs.Common.{[], ◌∷◌, take, subst, codes}
use Rattle.definitions.specs.Rules.{Today}
use Rattle.definitions.specs.Reports.{stock_csv, stock_record}
use Rattle.reports.specs.Exports.{HoldsText}
use Rattle.reports.proofs.MoreLaws.{one_more}
use Rattle.reports.proofs.WriterLaws.{holds_more}
use Rattle.reports.proofs.exports.write_rows.Goals as goal

pub loop-row-init : goal.loop-row-init
loop-row-init c =
    let wrote = c.in_ok-write_fields.ensures in
    holds_more c.args.writer.now c.write_fields.new.self [] (codes "item") (codes "lot") (codes "expiry" ∷ codes "expected" ∷ codes "on_hand" ∷ codes "reserved" ∷ codes "shipped" ∷ [])
    c.requires wrote.bytes wrote.ended wrote.clean wrote.setup

pub loop-row-preserved : goal.loop-row-preserved
loop-row-preserved c =
    let more = c.in_ok-write_row.ensures (stock_csv Today (take c.loop-row.row-index c.args.rows.now)) c.loop-row.invariant in
    let told = one_more (stock_record Today) (stock_csv Today []) c.args.rows.now c.loop-row.row-index c.row-item.result c.loop-row-test.true c.row-item.is in
    subst (HoldsText c.write_row.new.writer) told more
