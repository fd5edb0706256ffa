use Rattle.std.proofs.Common.{◌++◌, [], List, ℕ, ap, ◌∙◌}
use Rattle.definitions.specs.Reports.{outbox_line}
use Rattle.reports.proofs.MoreLaws.{one_more}
use Rattle.reports.proofs.outboxes.outbox_list.Goals as goal

pub loop-row-preserved : goal.loop-row-preserved
loop-row-preserved c =
    c.in_ok-append_row.ensures
    ∙ ap (λ (text : List ℕ). text ++ outbox_line c.row-item.result) c.loop-row.invariant
    ∙ one_more outbox_line [] c.args.rows.now c.loop-row.row-index c.row-item.result c.loop-row-test.true c.row-item.is
