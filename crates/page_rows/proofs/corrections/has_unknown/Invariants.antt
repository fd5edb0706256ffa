use Rattle.std.proofs.Common.{◌≡◌, take, false}
use Rattle.std.specs.List.{list_any}
use Rattle.page_rows.specs.Steps.{is_unknown}
use Rattle.page_rows.proofs.corrections.has_unknown.Given as goal

abbrev pub invariant-loop-line : goal.invariant-loop-line
invariant-loop-line l = list_any (is_unknown l.rows) (take l.line-index l.lines) ≡ false
