use Rattle.std.proofs.Common.{◌≡◌, ◌∷◌, take}
use Rattle.envelope.proofs.making.copied.Given as goal

abbrev pub invariant-loop-segment : goal.invariant-loop-segment
invariant-loop-segment l = l.segments.items ≡ l.head ∷ take l.segment-index l.others
