-- What is checked of lists before they are a page.
use Rattle.std.specs.Prelude.{ℕ, ◌+◌, ◌*◌, Bool, true, ◌&&◌, List, [], if◌then◌else◌, nat_le}
use Rattle.std.specs.List.{list_all}
use Rattle.definitions.specs.Limits.{most_recounted, most_entries, most_sets}
use Rattle.definitions.specs.Means.{Line}
use Rattle.definitions.specs.Movements.{Expected, Reservation}
use Rattle.definitions.specs.Page.{PageAdvice, PageLine, PageOrder}
use Rattle.definitions.specs.Rows.{LotRow}
use Rattle.page_rows.specs.Pages.{PageFacts, awaited, held, is_in_lines}
use Rattle.page_rows.specs.OfPairs.{amount, of_pair}

-- no more is reserved than is on hand, and no amount is above the most
abbrev pub is_within : ℕ → LotRow → Bool
is_within most r = nat_le r.reserved r.on_hand && nat_le r.expected most && nat_le r.on_hand most
    && nat_le r.shipped most

-- what open advices bring of a line's pair is expected, and what open orders hold of it is reserved
abbrev pub is_expected : List LotRow → List PageAdvice → Line → Bool
is_expected rows ks l =
    nat_le (awaited ks l.item l.lot) (of_pair (amount Expected) l.item l.lot rows)

abbrev pub is_reserved : List LotRow → List PageOrder → Line → Bool
is_reserved rows ks l =
    nat_le (held ks l.item l.lot) (of_pair (amount Reservation) l.item l.lot rows)

-- of each line of an open advice, and of each line that is reserved for an open order
abbrev pub all_expected : List LotRow → List PageAdvice → List PageAdvice → Bool
all_expected rows all ks = list_all (λ k. if k.is_open then list_all (is_expected rows all) k.lines
    else true) ks

abbrev pub all_reserved : List LotRow → List PageOrder → List PageOrder → Bool
all_reserved rows all ks = list_all (λ k. if k.is_open
    then list_all (is_reserved rows all) k.reserved else true) ks

abbrev pub most_of : ℕ → ℕ
most_of entries = (most_recounted + 1) * (most_sets * entries)

-- what lists in order need besides, with no event since the last entry
abbrev pub is_kept : PageFacts → Bool
is_kept p = nat_le p.entries most_entries && list_all (is_within (most_of p.entries)) p.rows
    && all_expected p.rows p.advices p.advices && all_reserved p.rows p.orders p.orders
    && list_all is_in_lines p.orders

-- the item of a line, without a lot
abbrev pub item_alone : PageLine → Line
item_alone m = record { item = m.item; lot = []; quantity = 0 }
