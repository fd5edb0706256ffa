use Rattle.std.proofs.Common.{◌≡◌, ◌-◌, take}
use Rattle.definitions.specs.Texts.{total_of}
use Rattle.reports.specs.Picking.{held_of}
use Rattle.reports.proofs.picking.short_of.Given as goal

-- the reservations so far
abbrev pub invariant-loop-goods : goal.invariant-loop-goods
invariant-loop-goods l = l.short ≡ l.line.quantity - total_of (held_of (take l.goods-index l.reserved) l.line.item)
