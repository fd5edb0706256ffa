use Rattle.std.proofs.Common.{◌≡◌, drop}
use Rattle.definitions.specs.Cut.{segments_of}
use Rattle.definitions.specs.Means.{ship_to}
use Rattle.sets_in.proofs.addresses.ship_to.Given as goal

-- the first ship-to is the first of those that are left
abbrev pub invariant-loop-index : goal.invariant-loop-index
invariant-loop-index l = ship_to (segments_of l.segments) ≡ ship_to (segments_of (drop l.index l.segments))
