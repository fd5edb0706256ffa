-- What a depositor has open, and who is enrolled, as people look at it.
use Rattle.std.specs.Prelude.{ℕ, List, [], ◌∷◌, ◌++◌, length, if◌then◌else◌, ◌==◌, Option, Some, None, codes, decimal, flat_map}
use Rattle.definitions.specs.declared.widths.TheConstants.{AMOUNT_COLUMN}
use Rattle.definitions.specs.Bytes.{padded, right_aligned}
use Rattle.definitions.specs.Header.{Who, who_text}
use Rattle.definitions.specs.Limits.{most_number}
use Rattle.definitions.specs.Means.{Line, Address}
use Rattle.definitions.specs.Page.{PageAdvice, PageLine, PageOrder}
use Rattle.definitions.specs.Reports.{columns, ended}
use Rattle.definitions.specs.Texts.{total_of}
use Rattle.reports.specs.Picking.{short_of, short_line}
use Rattle.reports.specs.declared.open_work.TheConstants.{LINES_COLUMN}
use Rattle.store.specs.Open.{OpenWork}

-- `-` in place of nothing
abbrev pub or_dash : List ℕ → List ℕ
or_dash text = if length text == 0 then codes "-" else text

-- Advices: shipment number left in 22, how many lines right in 5, the pieces announced right in 15,
-- and the order's number.

abbrev pub advice_columns : List ℕ → List ℕ → List ℕ → List ℕ → List ℕ
advice_columns number lines expected order = columns
    (padded most_number number ∷ right_aligned LINES_COLUMN lines
    ∷ right_aligned AMOUNT_COLUMN expected ∷ order ∷ [])

abbrev pub advice_headings : List ℕ
advice_headings = advice_columns (codes "advice") (codes "lines") (codes "expected") (codes "order")

abbrev pub advice_line : PageAdvice → List ℕ
advice_line a = advice_columns a.shipment (decimal (length a.lines)) (decimal (total_of a.lines))
    (or_dash a.order)

-- Orders: number left in 22, how many lines right in 5, and the name that it goes to.

abbrev pub order_columns : List ℕ → List ℕ → List ℕ → List ℕ
order_columns number lines name =
    columns (padded most_number number ∷ right_aligned LINES_COLUMN lines ∷ name ∷ [])

abbrev pub order_headings : List ℕ
order_headings = order_columns (codes "order") (codes "lines") (codes "ship to")

-- the name of an address, where there is one
abbrev pub name_of : Option Address → List ℕ
name_of None = []
name_of (Some a) = a.name

abbrev pub order_line : PageOrder → List ℕ
order_line k = order_columns k.number (decimal (length k.lines)) (or_dash (name_of k.address))

-- what is short of a line, as a picking sheet says it, after two spaces
abbrev pub short_part : List Line → PageLine → List ℕ
short_part reserved l =
    if short_of reserved l == 0 then [] else codes "  " ++ short_line l.item (short_of reserved l)

-- an order, and its lines of which not all is reserved
abbrev pub order_part : PageOrder → List ℕ
order_part k = order_line k ++ flat_map (short_part k.reserved) k.lines

-- What is open.

abbrev pub open_report : OpenWork → List ℕ
open_report work =
    (advice_headings ++ flat_map advice_line work.advices)
    ++ (order_headings ++ flat_map order_part work.orders)

-- Who is enrolled: `QQ-ID` each.

abbrev pub depositor_list : List Who → List ℕ
depositor_list whos = flat_map (λ w. ended (who_text w)) whos
