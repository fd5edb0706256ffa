use Rattle.std.proofs.Common.{take}
use Rattle.definitions.specs.Rules.{Today}
use Rattle.definitions.specs.Reports.{stock_csv}
use Rattle.reports.specs.Exports.{HoldsText}
use Rattle.reports.proofs.exports.write_rows.Given as goal

-- the export of the rows so far
abbrev pub invariant-loop-row : goal.invariant-loop-row
invariant-loop-row l = HoldsText l.writer (stock_csv Today (take l.row-index l.rows))
