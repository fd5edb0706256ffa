-- Picking sheets of orders as a page has them.
use Rattle.std.specs.Prelude.{ℕ, ◌-◌, List, [], ◌++◌, length, if◌then◌else◌, nat_lt, ◌==◌, codes, bytes_eq, filter, flat_map, Option, Result, option_to_list}
use Rattle.definitions.specs.Means.{Line}
use Rattle.definitions.specs.Page.{PageLine, PageOrder}
use Rattle.definitions.specs.declared.refusals.Refusal.{Refusal}
use Rattle.definitions.specs.Reports.{ended, address_lines, pick_line}
use Rattle.definitions.specs.Texts.{total_of}
use Rattle.reports.specs.Opened.{told, order_opened}

-- the reservations of an item
abbrev pub held_of : List Line → List ℕ → List Line
held_of reserved item = filter (λ k. bytes_eq k.item item) reserved

abbrev pub held_lines : List Line → List ℕ
held_lines held = flat_map (λ k. pick_line k.item k.lot k.quantity) held

abbrev pub short_line : List ℕ → ℕ → List ℕ
short_line item short = if short == 0 then [] else pick_line item (codes "(short)") short

-- how much of a line isn't reserved
abbrev pub short_of : List Line → PageLine → ℕ
short_of reserved l = l.quantity - total_of (held_of reserved l.item)

-- the reservations of a line, and what is short
abbrev pub order_lines : List Line → PageLine → List ℕ
order_lines reserved l = held_lines (held_of reserved l.item)
    ++ short_line l.item (short_of reserved l)

-- a line of an address, after three spaces
abbrev pub address_line : List ℕ → List ℕ
address_line text = if nat_lt 0 (length text) then ended (codes "   " ++ text) else []

abbrev pub order_sheet : PageOrder → List ℕ
order_sheet k =
    ended (codes "ORDER " ++ k.number)
    ++ flat_map address_lines (option_to_list k.address)
    ++ flat_map (order_lines k.reserved) k.lines

-- of the order that a page has under a number
abbrev pub listed : Option PageOrder → Result (List ℕ) Refusal
listed found = told order_sheet (order_opened found)
