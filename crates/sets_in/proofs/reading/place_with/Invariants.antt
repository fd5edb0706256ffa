use Rattle.std.proofs.Common.{◌≡◌, ◌+◌, drop}
use Rattle.std.specs.Prelude.{slice_get, unwrap_or}
use Rattle.definitions.specs.Cut.{segments_of}
use Rattle.definitions.specs.Means.{place_of}
use Rattle.sets_in.specs.Places.{places_from}
use Rattle.sets_in.proofs.reading.place_with.Given as goal

-- the place of the first with the id is that of the first of those that are left
abbrev pub invariant-loop-index : goal.invariant-loop-index
invariant-loop-index l = place_of l.id (segments_of l.segments) ≡ unwrap_or (slice_get (places_from l.id (l.index + 1) (segments_of (drop l.index l.segments))) 0) 0
