-- As many places as were counted are made, with nobody at them.
use Rattle.std.proofs.Common.{◌≡◌, None, replicate}
use Rattle.peers.proofs.places.empty_places.Given as goal

abbrev pub invariant-loop : goal.invariant-loop
invariant-loop l = l.places.items ≡ replicate l.counter None
