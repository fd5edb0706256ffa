-- Who wasn't answered yet stays.
use Rattle.peers.specs.Turns.{AllStay}
use Rattle.peers.proofs.places.stir.Given as goal

abbrev pub invariant-loop-event : goal.invariant-loop-event
invariant-loop-event l = AllStay l.initial.places.items l.places.items
