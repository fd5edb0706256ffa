use Rattle.std.proofs.Common.{◌≡◌, take}
use Rattle.page_rows.specs.Lots.{ranks_of}
use Rattle.page_rows.proofs.lots.counted_lots.Given as goal

abbrev pub invariant-loop-i : goal.invariant-loop-i
invariant-loop-i l = l.lots.items ≡ ranks_of l.item (take l.i l.rows)
