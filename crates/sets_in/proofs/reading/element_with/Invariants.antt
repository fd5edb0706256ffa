use Rattle.std.proofs.Common.{◌≡◌, drop}
use Rattle.definitions.specs.Cut.{segments_of, segment_with}
use Rattle.sets_in.proofs.reading.element_with.Given as goal

-- the first with the id is the first of those that are left
abbrev pub invariant-loop-segment : goal.invariant-loop-segment
invariant-loop-segment l = segment_with l.id (segments_of l.segments) ≡ segment_with l.id (segments_of (drop l.segment-index l.segments))
