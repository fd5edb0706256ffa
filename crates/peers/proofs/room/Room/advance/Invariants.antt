-- Who wasn't answered yet stays, and the places alone change.
use Rattle.std.proofs.Common.{◌≡◌}
use Rattle.peers.specs.Turns.{AllStay}
use Rattle.peers.proofs.room.Room.advance.Given as goal

abbrev pub invariant-loop-place : goal.invariant-loop-place
invariant-loop-place g l = AllStay l.initial.self.places.items l.self.places.items
    × (l.self ≡ record l.initial.self { places = l.self.places })
