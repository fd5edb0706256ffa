use Rattle.std.proofs.Common.{map, take}
use Rattle.segments.specs.Extends.{Extends}
use Rattle.sets_out.specs.Appends.{Writes}
use Rattle.sets_out.specs.Documents.{shipped_lot}
use Rattle.sets_out.proofs.shipments.append_lots.Given as goal

-- the lots so far are told
abbrev pub invariant-loop-lot : goal.invariant-loop-lot
invariant-loop-lot l = record {
  told : Writes l.delims l.fn.out.items l.out.items (map shipped_lot (take l.lot-index l.lots)) l.count;
  kept : Extends l.fn.out.items l.out.items;
}
