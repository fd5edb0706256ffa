-- The lots of an item that a page has, and what a line of an order is given of them.
use Rattle.std.specs.Prelude.{ℕ, ◌-◌, Bool, ◌&&◌, List, map, filter, flat_map, bytes_eq, nat_lt, Option, Some, None}
use Rattle.std.specs.Cmp.Lexicographic.{slice_cmp}
use Rattle.std.specs.Ordering.{nat_cmp, ordering_then}
use Rattle.std.specs.declared.cmp.Ordering.{Ordering}
use Rattle.std.specs.declared.cmp.Ordering.TheVariants.{Less, Equal, Greater}
use Rattle.definitions.specs.declared.rules.Rules.{Rules}
use Rattle.definitions.specs.declared.rules.Rules.TheVariants.{One, Two}
use Rattle.definitions.specs.Rows.{LotRow}
use Rattle.definitions.specs.Allotment.{Ranked, ranks_before, may_have, shares_from}
use Rattle.definitions.specs.Lists.{in_order}
use Rattle.definitions.specs.Means.{Line, OrderLine}
use Rattle.definitions.specs.Movements.{OnHand, Reservation}
use Rattle.page_rows.specs.OfPairs.{of_pair, amount}

abbrev pub is_lot_of : List ℕ → LotRow → Bool
is_lot_of item r = bytes_eq r.item item && nat_lt 0 r.since

abbrev pub rank_of : LotRow → Ranked
rank_of r = record { expiry = r.expiry; since = r.since; lot = r.lot }

abbrev pub ranks_of : List ℕ → List LotRow → List Ranked
ranks_of item rows = map rank_of (filter (is_lot_of item) rows)

-- How two lots stand to one another.

-- by their dates, a lot without one last
abbrev pub date_order : Option (List ℕ) → Option (List ℕ) → Ordering
date_order (Some x) (Some y) = slice_cmp nat_cmp x y
date_order (Some x) None = Less
date_order None (Some y) = Greater
date_order None None = Equal

-- by the first count that named each, and then by their bytes
abbrev pub count_order : Ranked → Ranked → Ordering
count_order a b = ordering_then (nat_cmp a.since b.since) (slice_cmp nat_cmp a.lot b.lot)

-- under rules 2 by the date before that
abbrev pub rank_order : Rules → Ranked → Ranked → Ordering
rank_order One a b = count_order a b
rank_order Two a b = ordering_then (date_order a.expiry b.expiry) (count_order a b)

-- what is free of a pair
abbrev pub free_in : List LotRow → List ℕ → List ℕ → ℕ
free_in rows item lot =
    of_pair (amount OnHand) item lot rows - of_pair (amount Reservation) item lot rows

-- what is given of the lots of an item, where so much is still wanted
abbrev pub shares_left : List LotRow → List ℕ → Option (List ℕ) → List (List ℕ) → ℕ → List Line
shares_left rows item pin lots left =
    shares_from item (filter (may_have pin) lots) (free_in rows item) left

-- what a line is given
abbrev pub shares_in : Rules → List LotRow → OrderLine → List Line
shares_in r rows l =
    shares_left rows l.item l.pin
    (map (λ k. k.lot) (in_order (ranks_before r) (ranks_of l.item rows))) l.quantity

-- what the lines of an order are given
abbrev pub all_shares_in : Rules → List LotRow → List OrderLine → List Line
all_shares_in r rows lines = flat_map (shares_in r rows) lines
