-- The first so far is the first of those at the places so far.
use Rattle.peers.proofs.Firsts.{FirstSoFar}
use Rattle.peers.proofs.places.first_waiting.Given as goal

abbrev pub invariant-loop-place : goal.invariant-loop-place
invariant-loop-place l = FirstSoFar l.places l.place l.first
