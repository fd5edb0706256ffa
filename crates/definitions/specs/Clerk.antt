-- Sheets, and what a clerk's act does or why it is refused.
use Rattle.std.specs.Prelude.{ℕ, Bool, true, false, not, ◌&&◌, ◌||◌, List, [], ◌∷◌, map, length, is_none, if◌then◌else◌, nat_lt, nat_le, ◌==◌, Some, None, Ok, Err, bytes_eq, filter_map, Option, Result}
use Rattle.std.specs.List.{list_any, list_all}
use Rattle.definitions.specs.declared.widths.TheConstants.{SHEET_DIGITS}
use Rattle.definitions.specs.Limits.{most_lines, most_quantity, most_recounted, most_item, most_lot, most_number}
use Rattle.definitions.specs.declared.rules.Rules.{Rules}
use Rattle.definitions.specs.declared.sheet_kind.SheetKind.{SheetKind}
use Rattle.definitions.specs.declared.sheet_kind.SheetKind.TheVariants.{Count as CountSheet, Pick as PickSheet, Recount as RecountSheet}
use Rattle.definitions.specs.Bytes.{is_identifier, is_number, value}
use Rattle.definitions.specs.Lists.{first_of, in_order, has_repeats}
use Rattle.definitions.specs.Means.{Line, Advice}
use Rattle.definitions.specs.Register.{Act, Count, Pick, Recount}
use Rattle.definitions.specs.Events.{Event, Counted, Picked, Recounted, pair_before, quantity_of, advice_under, Reserved, order_under, is_advice_open, is_order_open, since}
use Rattle.definitions.specs.Movements.{OnHand, Reservation, balance}
use Rattle.definitions.specs.Refusals.{Refusal, UnknownAdvice, AdviceClosed, UnknownOrder, OrderClosed, NotReserved, UnknownLot, BelowReserved, NoDifference, TooMuch, RepeatedLine, BadText, TooManyLines}

-- Sheets.

-- a line as it was read
pub record RawLine : Type 0 where
  pub item : List ℕ
  pub lot : List ℕ
  pub quantity : List ℕ

-- the greatest quantity of a line
abbrev pub quantity_limit : Rules → SheetKind → ℕ
quantity_limit r RecountSheet = most_recounted
quantity_limit r kind = most_quantity r

-- and the least
abbrev pub least_quantity : SheetKind → ℕ
least_quantity PickSheet = 1
least_quantity kind = 0

-- a quantity of more than nine digits, or over its limit
abbrev pub is_too_much : Rules → SheetKind → RawLine → Bool
is_too_much r kind l = nat_lt SHEET_DIGITS (length l.quantity)
    || nat_lt (quantity_limit r kind) (value l.quantity)

-- a pick of 0
abbrev pub picks_nothing : SheetKind → RawLine → Bool
picks_nothing PickSheet l = nat_le (length l.quantity) SHEET_DIGITS && value l.quantity == 0
picks_nothing kind l = false

-- an item, a lot or a quantity that can't be read
abbrev pub is_bad_line : SheetKind → RawLine → Bool
is_bad_line kind l =
    not (is_identifier 1 most_item l.item && is_identifier 1 most_lot l.lot && is_number l.quantity)
    || picks_nothing kind l

abbrev pub same_raw_pair : RawLine → RawLine → Bool
same_raw_pair a b = bytes_eq a.item b.item && bytes_eq a.lot b.lot

abbrev pub line_of : RawLine → Line
line_of l = record { item = l.item; lot = l.lot; quantity = value l.quantity }

-- a sheet's lines by item and lot, or the first of 33, 32, 30 and 31, each over all lines
abbrev pub sheet_of : Rules → SheetKind → List RawLine → Result (List Line) Refusal
sheet_of r kind lines = first_of (Ok (in_order pair_before (map line_of lines)))
    ((nat_lt (most_lines r) (length lines), Err TooManyLines)
    ∷ (list_any (is_bad_line kind) lines, Err BadText)
    ∷ (list_any (is_too_much r kind) lines, Err TooMuch)
    ∷ (has_repeats same_raw_pair lines, Err RepeatedLine)
    ∷ [])

-- What a sheet is, whoever made it: so many lines at most, of identifiers and quantities within
-- their limits, by item and lot, each pair once.

abbrev pub is_sheet_line : Rules → SheetKind → Line → Bool
is_sheet_line r kind l = is_identifier 1 most_item l.item && is_identifier 1 most_lot l.lot
    && nat_le (least_quantity kind) l.quantity
    && nat_le l.quantity (quantity_limit r kind)

abbrev pub is_ascending : List Line → Bool
is_ascending [] = true
is_ascending (k ∷ []) = true
is_ascending (k ∷ l ∷ ls) = pair_before k l && is_ascending (l ∷ ls)

abbrev pub is_sheet : Rules → SheetKind → List Line → Bool
is_sheet r kind lines = nat_le (length lines) (most_lines r)
    && list_all (is_sheet_line r kind) lines && is_ascending lines

-- a record of three fields
abbrev pub raw_line : List (List ℕ) → Option RawLine
raw_line (item ∷ lot ∷ quantity ∷ []) =
    Some (record { item = item; lot = lot; quantity = quantity })
raw_line fields = None

-- the sheet that records make: 33 comes before 32, also where a record hasn't three fields
abbrev pub sheet_of_records : Rules → SheetKind → List (List (List ℕ))
    → Result (List Line) Refusal
sheet_of_records r kind records = first_of (sheet_of r kind (filter_map raw_line records))
    ((nat_lt (most_lines r) (length records), Err TooManyLines)
    ∷ (list_any (λ fields. is_none (raw_line fields)) records, Err BadText)
    ∷ [])

-- Acts.

-- an act with a sheet of its kind, of a shipment or an order number of 1 to 22 bytes
abbrev pub is_act : Rules → Act → Bool
is_act r (Count shipment sheet) = is_identifier 1 most_number shipment
    && is_sheet r CountSheet sheet
is_act r (Pick number sheet) = is_identifier 1 most_number number && is_sheet r PickSheet sheet
is_act r (Recount sheet) = is_sheet r RecountSheet sheet

-- Each act is the event that it makes, under its entry's number, or the first refusal, each over
-- all lines.

-- 22 no such advice, 23 it is closed
abbrev pub counted : List Event → ℕ → List ℕ → List Line → Result Event Refusal
counted es n shipment sheet = of_advice (advice_under shipment es)
  where
    of_advice : Option Advice → Result Event Refusal
    of_advice None = Err UnknownAdvice
    of_advice (Some a) =
        if is_advice_open shipment es then Ok (Counted n a sheet) else Err AdviceClosed

-- 24 no such order, 25 it is closed, 26 a line exceeds the order's reservation of its pair
abbrev pub picked : List Event → ℕ → List ℕ → List Line → Result Event Refusal
picked es n number sheet = of_order (order_under number es)
  where
    of_order : Option Reserved → Result Event Refusal
    of_order None = Err UnknownOrder
    of_order (Some r) = first_of (Ok (Picked n r.order r.shares sheet))
        ((not (is_order_open number es), Err OrderClosed)
        ∷ (
          list_any (λ l. nat_lt (quantity_of r.shares l.item l.lot) l.quantity) sheet,
          Err NotReserved,
        )
        ∷ [])

-- the same pairs with what is on hand of them
abbrev pub on_hand_now : List Event → List Line → List Line
on_hand_now es sheet =
    map (λ l. record {
      item = l.item;
      lot = l.lot;
      quantity = balance es OnHand l.item l.lot;
    }) sheet

-- 27 a pair that no count named, 28 an amount below what is reserved, 29 no line differs from what
-- is on hand
abbrev pub recounted : List Event → ℕ → List Line → Result Event Refusal
recounted es n sheet = first_of (Ok (Recounted n (on_hand_now es sheet) sheet))
    ((list_any (λ l. since es l.item l.lot == 0) sheet, Err UnknownLot)
    ∷ (
      list_any (λ l. nat_lt l.quantity (balance es Reservation l.item l.lot)) sheet,
      Err BelowReserved,
    )
    ∷ (list_all (λ l. l.quantity == balance es OnHand l.item l.lot) sheet, Err NoDifference)
    ∷ [])

abbrev pub performed : List Event → ℕ → Act → Result Event Refusal
performed es n (Count shipment sheet) = counted es n shipment sheet
performed es n (Pick number sheet) = picked es n number sheet
performed es n (Recount sheet) = recounted es n sheet
