-- The order of lines by their pairs.
use Rattle.std.specs.Ordering.{ordering_then, nat_cmp}
use Rattle.std.specs.declared.cmp.Ordering.{Ordering}
use Rattle.std.specs.Cmp.Lexicographic.{slice_cmp}
use Rattle.definitions.specs.Clerk.{RawLine}

-- by item and then lot, each by its bytes
abbrev pub pair_cmp : RawLine → RawLine → Ordering
pair_cmp a b = ordering_then (slice_cmp nat_cmp a.item b.item) (slice_cmp nat_cmp a.lot b.lot)
