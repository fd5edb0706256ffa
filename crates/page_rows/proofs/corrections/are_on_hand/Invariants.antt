use Rattle.std.proofs.Common.{◌≡◌, take, true}
use Rattle.std.specs.List.{list_all}
use Rattle.page_rows.specs.Steps.{is_on_hand}
use Rattle.page_rows.proofs.corrections.are_on_hand.Given as goal

abbrev pub invariant-loop-line : goal.invariant-loop-line
invariant-loop-line l = list_all (is_on_hand l.rows) (take l.line-index l.lines) ≡ true
