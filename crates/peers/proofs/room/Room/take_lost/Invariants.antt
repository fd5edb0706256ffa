-- Who wasn't answered yet stays, and the places alone change.
use Rattle.std.proofs.Common.{◌≡◌}
use Rattle.peers.specs.Turns.{AllStay}
use Rattle.peers.proofs.room.Room.take_lost.Given as goal

abbrev pub invariant-loop-at : goal.invariant-loop-at
invariant-loop-at g l = AllStay l.initial.self.places.items l.self.places.items
    × (l.self ≡ record l.initial.self { places = l.self.places })
