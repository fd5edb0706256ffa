use Rattle.std.proofs.Common.{◌≡◌, take}
use Rattle.definitions.specs.Reports.{outbox_list}
use Rattle.reports.proofs.outboxes.outbox_list.Given as goal

-- the list of the rows so far
abbrev pub invariant-loop-row : goal.invariant-loop-row
invariant-loop-row l = l.text.items ≡ outbox_list (take l.row-index l.rows)
