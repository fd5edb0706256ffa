use Rattle.std.proofs.Common.{◌++◌, ◌∷◌, [], List, ℕ, ap, codes, ◌∙◌}
use Rattle.definitions.specs.Rules.{Today}
use Rattle.definitions.specs.Reports.{stock_columns, stock_line}
use Rattle.reports.proofs.MoreLaws.{one_more}
use Rattle.reports.proofs.balances.stock_report.Goals as goal

pub loop-row-preserved : goal.loop-row-preserved
loop-row-preserved c =
    let amounts = codes "expected" ∷ codes "on hand" ∷ codes "reserved" ∷ codes "shipped" ∷ [] in
    let headings = stock_columns Today (codes "item") (codes "lot") (codes "expiry") amounts in
    c.in_ok-append_row.ensures
    ∙ ap (λ (text : List ℕ). text ++ stock_line Today c.row-item.result) c.loop-row.invariant
    ∙ one_more (stock_line Today) headings c.args.rows.now c.loop-row.row-index c.row-item.result c.loop-row-test.true c.row-item.is
