use Rattle.std.proofs.Common.{◌≡◌, take}
use Rattle.definitions.specs.Events.{quantity_of}
use Rattle.page_rows.proofs.lines.sum_of.Given as goal

abbrev pub invariant-loop-line : goal.invariant-loop-line
invariant-loop-line l = l.quantity ≡ quantity_of (take l.line-index l.lines) l.item l.lot
