-- What is reserved for an open order, as a sheet that a pick takes.
use Rattle.std.specs.Prelude.{◌≡◌, ℕ, ◌&&◌, List, nat_lt, bytes_eq, filter, flat_map, Option, Result, Ok}
use Rattle.definitions.specs.Lists.{in_order}
use Rattle.definitions.specs.Means.{Line, OrderLine}
use Rattle.definitions.specs.Events.{Event, pair_before, Reserved}
use Rattle.definitions.specs.Clerk.{picked}
use Rattle.definitions.specs.Page.{PageOrder}
use Rattle.definitions.specs.declared.refusals.Refusal.{Refusal}
use Rattle.reports.specs.Opened.{told, open_order, order_opened}
use Rattle.reports.specs.PairLines.{lines_text}
use Rattle.reports.specs.Picking.{held_of}

-- Of events.

-- the reservations of an order's line by lot bytes, as a picking sheet has them
abbrev pub reserved_of : List Line → OrderLine → List Line
reserved_of shares l =
    in_order pair_before (filter (λ k. bytes_eq k.item l.item && nat_lt 0 k.quantity) shares)

-- those of each line, without what is short
abbrev pub reserved_pairs : Reserved → List Line
reserved_pairs r = flat_map (reserved_of r.shares) r.order.lines

abbrev pub picking_csv : List Event → List ℕ → Result (List ℕ) Refusal
picking_csv es number = told (λ r. lines_text (reserved_pairs r)) (open_order es number)

-- a pick of these lines is taken, under whichever number
abbrev pub IsTaken : List Event → List ℕ → List Line → Type 0
IsTaken es number sheet = (n : ℕ) → (e : Event) × (picked es n number sheet ≡ Ok e)

-- Of a page.

abbrev pub held_pairs : PageOrder → List Line
held_pairs k = flat_map (λ l. held_of k.reserved l.item) k.lines

-- of the order that it has under a number
abbrev pub csv_on : Option PageOrder → Result (List ℕ) Refusal
csv_on found = told (λ k. lines_text (held_pairs k)) (order_opened found)
