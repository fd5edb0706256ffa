use Rattle.std.proofs.Common.{◌≡◌, take}
use Rattle.page_rows.specs.Lots.{all_shares_in}
use Rattle.page_rows.proofs.lots.all_shares.Given as goal

abbrev pub invariant-loop-line : goal.invariant-loop-line
invariant-loop-line l = l.all.items ≡ all_shares_in l.rules l.rows (take l.line-index l.lines)
