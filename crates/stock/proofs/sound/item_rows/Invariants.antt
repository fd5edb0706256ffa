use Rattle.std.proofs.Common.{map, take}
use Rattle.page_rows.specs.Keyed.{IsSorted}
use Rattle.page_rows.specs.Soundness.{item_alone}
use Rattle.page_rows.specs.OfPairs.{AreRowsOf}
use Rattle.stock.proofs.sound.item_rows.Given as goal

abbrev pub invariant-loop-line : goal.invariant-loop-line
invariant-loop-line l = record { sorted : IsSorted l.rows.items; are : AreRowsOf (map item_alone (take l.line-index l.lines)) l.rows.items }
