-- Places of segments after others.
use Rattle.std.specs.Prelude.{ℕ, List, map, filter}
use Rattle.std.specs.List.{enumerate_from}
use Rattle.definitions.specs.Cut.{Segment, has_id}

-- the places of the segments with the id, where the first has the place n
abbrev pub places_from : List ℕ → ℕ → List Segment → List ℕ
places_from id n ss = map (λ p. p.0) (filter (λ p. has_id id p.1) (enumerate_from n ss))
