-- A picking sheet is the same of the events and of the page.
use Rattle.std.proofs.Common.{◌≡◌, ℕ, Bool, true, false, ◌&&◌, List, [], ◌∷◌, map, filter, flat_map, refl, ap, sym, ◌∙◌, bytes_eq, Option, Some, None}
use Rattle.std.specs.Prelude.{nat_lt}
use Rattle.std.proofs.lemmas.List.Folds.{flat_map-map}
use Rattle.definitions.specs.Lists.{in_order, first_found, or_else}
use Rattle.definitions.specs.Means.{Line, OrderLine}
use Rattle.definitions.specs.Events.{Event, Enrolment, Advised, Ordered, Acknowledged, Counted, Picked, Recounted, pair_before, Reserved, order_if, is_order_open}
use Rattle.definitions.specs.Page.{reserved_lines, page_line, page_order}
use Rattle.definitions.specs.Reports.{pick_lines, pick_sheet}
use Rattle.definitions.proofs.TextLaws.{text_is}
use Rattle.store.proofs.PairLaws.{before_through, one_pair}
use Rattle.reports.specs.Picking.{held_of, order_lines, order_sheet}
use Rattle.reports.proofs.FilterLaws.{filter_in_order, filters}

-- the reservations of an item are those of its shares
pub held_is : (shares : List Line) (item : List ℕ) → held_of (reserved_lines shares) item ≡ in_order pair_before (filter (λ k. bytes_eq k.item item && nat_lt 0 k.quantity) shares)
held_is shares item =
    filter_in_order pair_before before_through (λ k. bytes_eq k.item item) (λ k l e f. ap (λ i. bytes_eq i item) (one_pair k l e f).0) (filter (λ k. nat_lt 0 k.quantity) shares)
    ∙ ap (in_order pair_before) (filters (λ k. bytes_eq k.item item) (λ k. nat_lt 0 k.quantity) shares)

lines_are : (shares : List Line) (l : OrderLine) → order_lines (reserved_lines shares) (page_line l) ≡ pick_lines shares l
lines_are shares l = rw (held_is shares l.item) refl

all_lines_are : (shares : List Line) (ls : List OrderLine) → flat_map (order_lines (reserved_lines shares)) (map page_line ls) ≡ flat_map (pick_lines shares) ls
all_lines_are shares ls = flat_map-map (order_lines (reserved_lines shares)) page_line ls ∙ (λ i. flat_map (λ l. lines_are shares l i) ls)

-- the sheet of an open order is that of what the page shows of it
pub sheet_is : (es : List Event) (r : Reserved) → is_order_open r.order.number es ≡ true → order_sheet (page_order es r) ≡ pick_sheet r
sheet_is es r h = rw (h, all_lines_are r.shares r.order.lines) refl

-- an order is found under its number

pub found_is : {X Y : Type 0} (f : X → Option Y) (P : Y → Type 0) → ((x : X) (y : Y) → f x ≡ Some y → P y) → (xs : List X) (y : Y) → first_found f xs ≡ Some y → P y
found_is {Y = Y} f P each [] y h = absurd (cc)
found_is {Y = Y} f P each (x ∷ xs) y h = by_first (f x) refl (λ g. found_is f P each xs y g) h
  where
    by_first : (o : Option Y) → f x ≡ o → (first_found f xs ≡ Some y → P y) → or_else o (first_found f xs) ≡ Some y → P y
    by_first (Some z) e rest g = each x y (e ∙ g)
    by_first None e rest g = rest g

abbrev number_in : Option Reserved → List ℕ
number_in None = []
number_in (Some r) = r.order.number

pub number_of : (number : List ℕ) (e : Event) (r : Reserved) → order_if number e ≡ Some r → r.order.number ≡ number
number_of number (Ordered o shares) r h = by_test (bytes_eq o.number number) refl
  where
    by_test : (t : Bool) → bytes_eq o.number number ≡ t → r.order.number ≡ number
    by_test true e =
        let found : Some (record { order = o; shares = shares }) ≡ Some r = rw e at h in
        sym (ap number_in found) ∙ text_is o.number number e
    by_test false e =
        let found : None ≡ Some r = rw e at h in
        absurd (cc)
number_of number Enrolment r h = absurd (cc)
number_of number (Advised a) r h = absurd (cc)
number_of number (Acknowledged n a) r h = absurd (cc)
number_of number (Counted n a sheet) r h = absurd (cc)
number_of number (Picked n o shares sheet) r h = absurd (cc)
number_of number (Recounted n before sheet) r h = absurd (cc)
