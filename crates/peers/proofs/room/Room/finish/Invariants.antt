-- Who wasn't answered yet stays, and no more are accepted.
use Rattle.std.proofs.Common.{◌≡◌}
use Rattle.peers.specs.Turns.{AllStay}
use Rattle.peers.proofs.room.Room.finish.Given as goal

abbrev pub invariant-loop : goal.invariant-loop
invariant-loop g l = AllStay l.initial.self.places.items l.self.places.items
    × (l.self.limits ≡ l.initial.self.limits) × (l.initial.self.limits.count ≡ 0)
