-- The order of lines by their pairs.
use Rattle.std.specs.Ordering.{ordering_then, nat_cmp}
use Rattle.std.specs.declared.cmp.Ordering.{Ordering}
use Rattle.std.specs.Cmp.Lexicographic.{slice_cmp}
use Rattle.definitions.specs.Means.{Line}
use Rattle.page_rows.specs.Keyed.{Pair}

-- by item and then lot, each by its bytes
abbrev pub pairs_order : Line → Line → Ordering
pairs_order a b = ordering_then (slice_cmp nat_cmp a.item b.item) (slice_cmp nat_cmp a.lot b.lot)

abbrev pub pair_key : Line → Pair
pair_key l = (l.item, l.lot)
