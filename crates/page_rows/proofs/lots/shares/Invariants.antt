use Rattle.std.proofs.Common.{◌≡◌, ◌++◌, drop, map}
use Rattle.page_rows.specs.Lots.{shares_in, shares_left}
use Rattle.page_rows.proofs.lots.shares.Given as goal

abbrev pub invariant-loop-ranked : goal.invariant-loop-ranked
invariant-loop-ranked l = shares_in l.fn.rules l.rows l.line ≡ l.shares.items ++ shares_left l.rows l.line.item l.line.pin (map (λ r. r.lot) (drop l.ranked-index l.ranked-items)) l.left
