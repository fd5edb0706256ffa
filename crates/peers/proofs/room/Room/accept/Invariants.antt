-- Who wasn't answered yet stays, and no more are accepted than were to be.
use Rattle.peers.specs.Rooms.{CountsDown}
use Rattle.peers.specs.Turns.{AllStay}
use Rattle.peers.proofs.room.Room.accept.Given as goal

abbrev pub invariant-loop : goal.invariant-loop
invariant-loop g l = AllStay l.initial.self.places.items l.self.places.items
    × CountsDown l.initial.self.limits l.self.limits
