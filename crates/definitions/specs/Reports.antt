-- The texts of reports.
use Rattle.std.specs.Prelude.{ℕ, ◌-◌, ◌&&◌, List, [], ◌∷◌, ◌++◌, map, length, if◌then◌else◌, nat_lt, ◌==◌, Some, None, Ok, Err, codes, bytes_eq, decimal, filter, flat_map, Option, Result, unwrap_or, option_to_list}
use Rattle.std.specs.List.{join_with_byte}
use Rattle.definitions.specs.declared.widths.TheConstants.{DATE_DIGITS, AMOUNT_COLUMN, NUMBER_COLUMN, QUANTITY_COLUMN}
use Rattle.definitions.specs.declared.rules.Rules.{Rules}
use Rattle.definitions.specs.declared.rules.Rules.TheVariants.{One, Two}
use Rattle.definitions.specs.Limits.{most_item, most_lot}
use Rattle.definitions.specs.Bytes.{padded, right_aligned}
use Rattle.definitions.specs.Lists.{in_order}
use Rattle.definitions.specs.Means.{Line, OrderLine, Address}
use Rattle.definitions.specs.Events.{Event, pair_before, Reserved, order_under, is_order_open}
use Rattle.definitions.specs.Refusals.{Refusal, UnknownOrder, OrderClosed}
use Rattle.definitions.specs.Texts.{total_of}
use Rattle.definitions.specs.Rows.{StockRow, OutRow}

abbrev pub ended : List ℕ → List ℕ
ended text = text ++ codes "\n"

-- columns with a space between each two
abbrev pub columns : List (List ℕ) → List ℕ
columns cells = ended (join_with_byte 32 cells)

-- Stock report: item left in 20, lot left in 12, under rules 2 expiry left in 8 and blank where
-- there is none, and expected, on hand, reserved and shipped right in 15.

-- what is told of an expiry: nothing under rules 1
abbrev pub dated : Rules → List ℕ → List (List ℕ)
dated One text = []
dated Two text = text ∷ []

abbrev pub stock_columns : Rules → List ℕ → List ℕ → List ℕ → List (List ℕ) → List ℕ
stock_columns r item lot expiry amounts = columns
    (padded most_item item ∷ padded most_lot lot ∷ dated r (padded DATE_DIGITS expiry)
    ++ map (right_aligned AMOUNT_COLUMN) amounts)

-- the date of a pair that has one
abbrev pub expiry_text : StockRow → List ℕ
expiry_text row = unwrap_or row.expiry []

abbrev pub stock_line : Rules → StockRow → List ℕ
stock_line r row = stock_columns r row.item row.lot (expiry_text row)
    (decimal row.expected ∷ decimal row.on_hand ∷ decimal row.reserved ∷ decimal row.shipped ∷ [])

abbrev pub stock_report : Rules → List StockRow → List ℕ
stock_report r rows =
    stock_columns r (codes "item") (codes "lot") (codes "expiry")
    (codes "expected" ∷ codes "on hand" ∷ codes "reserved" ∷ codes "shipped" ∷ [])
    ++ flat_map (stock_line r) rows

-- Stock export: CSV. No identifier and no number is quoted.

abbrev pub csv_record : List (List ℕ) → List ℕ
csv_record fields = ended (join_with_byte 44 fields)

abbrev pub stock_record : Rules → StockRow → List ℕ
stock_record r row = csv_record
    (row.item ∷ row.lot ∷ dated r (expiry_text row)
    ++ decimal row.expected ∷ decimal row.on_hand ∷ decimal row.reserved ∷ decimal row.shipped ∷ [])

abbrev pub stock_csv : Rules → List StockRow → List ℕ
stock_csv r rows =
    csv_record (codes "item" ∷ codes "lot" ∷ dated r (codes "expiry")
    ++ codes "expected" ∷ codes "on_hand" ∷ codes "reserved" ∷ codes "shipped" ∷ [])
    ++ flat_map (stock_record r) rows

-- Outbox list: the number right in 6, the kind and the state.

abbrev pub outbox_line : OutRow → List ℕ
outbox_line r = columns (right_aligned NUMBER_COLUMN (decimal r.n) ∷ r.kind ∷ r.state ∷ [])

abbrev pub outbox_list : List OutRow → List ℕ
outbox_list rows = flat_map outbox_line rows

-- Picking sheet of an open order.

-- the address: `TO ` and the name, then each line that isn't empty after three spaces
abbrev pub address_lines : Address → List ℕ
address_lines a = ended (codes "TO " ++ a.name)
    ++ flat_map (λ text. ended (codes "   " ++ text)) (filter (λ t. nat_lt 0 (length t)) (a.one
    ∷ a.two ∷ a.place ∷ []))

-- item left in 20, lot left in 12, quantity right in 6
abbrev pub pick_line : List ℕ → List ℕ → ℕ → List ℕ
pick_line item lot quantity =
    columns (padded most_item item ∷ padded most_lot lot
    ∷ right_aligned QUANTITY_COLUMN (decimal quantity) ∷ [])

-- the reservations of an order's line by lot bytes, and what is short
abbrev pub pick_lines : List Line → OrderLine → List ℕ
pick_lines shares l =
    let of_item = filter (λ k. bytes_eq k.item l.item && nat_lt 0 k.quantity) shares in
    let held = in_order pair_before of_item in
    let short = l.quantity - total_of held in
    flat_map (λ k. pick_line k.item k.lot k.quantity) held
    ++ (if short == 0 then [] else pick_line l.item (codes "(short)") short)

abbrev pub pick_sheet : Reserved → List ℕ
pick_sheet r = ended (codes "ORDER " ++ r.order.number)
    ++ flat_map address_lines (option_to_list r.order.address)
    ++ flat_map (pick_lines r.shares) r.order.lines

-- the sheet of an order, 24 where there is none and 25 where it is closed
abbrev pub pick_list : List Event → List ℕ → Result (List ℕ) Refusal
pick_list es number = of_order (order_under number es)
  where
    of_order : Option Reserved → Result (List ℕ) Refusal
    of_order None = Err UnknownOrder
    of_order (Some r) = if is_order_open number es then Ok (pick_sheet r) else Err OrderClosed
