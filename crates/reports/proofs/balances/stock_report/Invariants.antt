use Rattle.std.proofs.Common.{◌≡◌, take}
use Rattle.definitions.specs.Rules.{Today}
use Rattle.definitions.specs.Reports.{stock_report}
use Rattle.reports.proofs.balances.stock_report.Given as goal

-- the report of the rows so far
abbrev pub invariant-loop-row : goal.invariant-loop-row
invariant-loop-row l = l.text.items ≡ stock_report Today (take l.row-index l.rows)
