-- What the elements of each segment may be, and an element's fault.
use Rattle.std.specs.Prelude.{ℕ, ◌+◌, Bool, true, false, not, ◌&&◌, ◌||◌, List, [], ◌∷◌, ◌++◌, length, take, drop, replicate, is_none, if◌then◌else◌, nat_lt, ◌==◌, slice_get, Some, None, codes, bytes_eq, find, Option, unwrap_or, option_map, option_and_then}
use Rattle.std.specs.List.{list_all}
use Rattle.definitions.specs.declared.widths.TheConstants.{CONTROL_DIGITS, FUNCTION_BYTES, LEAST_SIDE, MOST_SIDE, DATE_DIGITS, LEAST_TIME, MOST_TIME, MOST_AGENCY, MOST_VERSION, GROUPS_DIGITS, SETS_DIGITS, SEGMENTS_DIGITS, SET_BYTES, LEAST_SET_CONTROL, MOST_SET_CONTROL, LEAST_SEGMENT, MOST_SEGMENT, POSITION_DIGITS, MOST_LOOP, MOST_ERROR, MOST_PLACE, ELEMENT_DIGITS, MOST_COPY, QUANTITY_DIGITS, QUANTITY_DIGITS_TWO, ADVICE_TOTAL_DIGITS, ADVICE_TOTAL_DIGITS_TWO, ORDER_TOTAL_DIGITS, ORDER_TOTAL_DIGITS_TWO, LINE_DIGITS, MOST_CASE, LEAST_QUALIFIER, MOST_QUALIFIER, MOST_REFERENCE, MOST_DESCRIPTION, DATE_QUALIFIER_BYTES, MOST_NAME, MOST_CODE_QUALIFIER, LEAST_CODE, MOST_CODE, MOST_STREET, LEAST_CITY, MOST_CITY, STATE_BYTES, LEAST_POSTAL, MOST_POSTAL, LEAST_COUNTRY, MOST_COUNTRY}
use Rattle.definitions.specs.declared.rules.Rules.{Rules}
use Rattle.definitions.specs.declared.rules.Rules.TheVariants.{One, Two}
use Rattle.definitions.specs.Limits.{most_number, most_item, most_lot}
use Rattle.definitions.specs.Bytes.{is_digit, is_alphanumeric, is_identifier_byte, is_one_of, value, Delims, is_data}
use Rattle.definitions.specs.Lists.{first_of, or_else}
use Rattle.definitions.specs.Cut.{Segment, id_of}
use Rattle.definitions.specs.Moments.{is_date, is_clock}

-- The types of elements.
pub data Kind : Type 0 where
  -- one of these texts
  Coded : List (List ℕ) → Kind
  -- digits, of value at least 1
  Quantity : Kind
  -- digits of any value
  Digits : Kind
  -- identifier bytes
  Identifier : Kind
  -- A to Z and 0 to 9
  Alphanumeric : Kind
  -- data bytes
  Data : Kind
  -- data bytes and component separators
  Parts : Kind
  -- a date CCYYMMDD
  Date : Kind
  -- a time HHMM, HHMMSS, HHMMSSD or HHMMSSDD
  Time : Kind

pub record ElementRow : Type 0 where
  pub is_mandatory : Bool
  pub kind : Kind
  -- lengths in bytes
  pub least : ℕ
  pub most : ℕ

abbrev pub must : Kind → ℕ → ℕ → ElementRow
must kind least most = record { is_mandatory = true; kind = kind; least = least; most = most }

abbrev pub may : Kind → ℕ → ℕ → ElementRow
may kind least most = record { is_mandatory = false; kind = kind; least = least; most = most }

-- a code of which `text` is the only value
abbrev pub only : List ℕ → ElementRow
only text = must (Coded (text ∷ [])) (length text) (length text)

-- The rows of the segments in the sets, by their ids.

-- the digits of a line's quantity, and of the sums of an advice and of an order
abbrev pub quantity_digits : Rules → ℕ
quantity_digits One = QUANTITY_DIGITS
quantity_digits Two = QUANTITY_DIGITS_TWO

abbrev pub advice_total_digits : Rules → ℕ
advice_total_digits One = ADVICE_TOTAL_DIGITS
advice_total_digits Two = ADVICE_TOTAL_DIGITS_TWO

abbrev pub order_total_digits : Rules → ℕ
order_total_digits One = ORDER_TOTAL_DIGITS
order_total_digits Two = ORDER_TOTAL_DIGITS_TWO

-- W04 of a 943 and W01 of a 940: quantity, unit, an element that isn't used, qualifier and item
abbrev pub goods_rows : Rules → List ElementRow
goods_rows r = must Quantity 1 (quantity_digits r) ∷ only (codes "EA") ∷ may Data 1 MOST_CASE
    ∷ only (codes "SK") ∷ must Identifier 1 most_item ∷ []

-- N9 after a W04 or a W01: the lot
abbrev pub plain_lot_rows : List ElementRow
plain_lot_rows = only (codes "LT") ∷ must Identifier 1 most_lot ∷ may Data 1 MOST_DESCRIPTION ∷ []

-- and with its expiry
abbrev pub dated_lot_rows : List ElementRow
dated_lot_rows = plain_lot_rows ++ may Date DATE_DIGITS DATE_DIGITS ∷ []

-- that of a 943 has the expiry under rules 2; `previous` is the id before it
abbrev pub lot_rows : Rules → List ℕ → List ElementRow
lot_rows One previous = plain_lot_rows
lot_rows Two previous = if bytes_eq previous (codes "W04") then dated_lot_rows else plain_lot_rows

abbrev pub segment_rows : Rules → List (List ℕ × List ElementRow)
segment_rows r = (
  codes "W06",
  only (codes "F") ∷ must Identifier 1 most_number
      ∷ must Date DATE_DIGITS DATE_DIGITS ∷ must Identifier 1 most_number ∷ [],
)
    ∷ (codes "W04", goods_rows r)
    ∷ (codes "W01", goods_rows r)
    ∷ (
      codes "N9",
      must Alphanumeric LEAST_QUALIFIER MOST_QUALIFIER ∷ must Data 1 MOST_REFERENCE
          ∷ may Data 1 MOST_DESCRIPTION ∷ [],
    )
    ∷ (codes "W03", must Quantity 1 (advice_total_digits r) ∷ [])
    ∷ (codes "W76", must Quantity 1 (order_total_digits r) ∷ [])
    ∷ (codes "W05", only (codes "N") ∷ must Identifier 1 most_number ∷ may Data 1 most_number ∷ [])
    ∷ (codes "LX", must Quantity 1 LINE_DIGITS ∷ [])
    ∷ (
      codes "N1",
      must Alphanumeric LEAST_QUALIFIER MOST_QUALIFIER ∷ may Data 1 MOST_NAME
          ∷ may Data 1 MOST_CODE_QUALIFIER ∷ may Data LEAST_CODE MOST_CODE ∷ [],
    )
    ∷ (codes "N3", must Data 1 MOST_STREET ∷ may Data 1 MOST_STREET ∷ [])
    ∷ (
      codes "N4",
      may Data LEAST_CITY MOST_CITY ∷ may Data STATE_BYTES STATE_BYTES
          ∷ may Data LEAST_POSTAL MOST_POSTAL ∷ may Data LEAST_COUNTRY MOST_COUNTRY ∷ [],
    )
    ∷ (
      codes "G62",
      must Alphanumeric DATE_QUALIFIER_BYTES DATE_QUALIFIER_BYTES
          ∷ must Date DATE_DIGITS DATE_DIGITS ∷ [],
    )
    ∷ (
      codes "AK1",
      must Alphanumeric FUNCTION_BYTES FUNCTION_BYTES ∷ must Digits 1 CONTROL_DIGITS
          ∷ [],
    )
    ∷ (
      codes "AK2",
      must Alphanumeric SET_BYTES SET_BYTES
          ∷ must Alphanumeric LEAST_SET_CONTROL MOST_SET_CONTROL ∷ [],
    )
    ∷ (
      codes "AK3",
      must Alphanumeric LEAST_SEGMENT MOST_SEGMENT ∷ must Digits 1 POSITION_DIGITS
          ∷ may Data 1 MOST_LOOP
          ∷ may Data 1 MOST_ERROR ∷ [],
    )
    ∷ (
      codes "AK4",
      must Parts 1 MOST_PLACE ∷ may Digits 1 ELEMENT_DIGITS ∷ must Data 1 MOST_ERROR
          ∷ may Data 1 MOST_COPY ∷ [],
    )
    ∷ (
      codes "AK5",
      must (Coded (codes "A" ∷ codes "R" ∷ [])) 1 1
          ∷ replicate 5 (may Data 1 MOST_ERROR),
    )
    ∷ (
      codes "AK9",
      must (Coded (codes "A" ∷ codes "P" ∷ codes "R" ∷ [])) 1 1
          ∷ replicate 3 (must Digits 1 SETS_DIGITS) ++ replicate 5 (may Data 1 MOST_ERROR),
    )
    ∷ []

-- The rows of the control segments, which have exactly these elements.
abbrev pub control_rows : List (List ℕ × List ElementRow)
control_rows = (
  codes "GS",
  must Alphanumeric FUNCTION_BYTES FUNCTION_BYTES ∷ must Data LEAST_SIDE MOST_SIDE
      ∷ must Data LEAST_SIDE MOST_SIDE
      ∷ must Date DATE_DIGITS DATE_DIGITS ∷ must Time LEAST_TIME MOST_TIME
      ∷ must Digits 1 CONTROL_DIGITS ∷ must Data 1 MOST_AGENCY ∷ must Data 1 MOST_VERSION ∷ [],
)
    ∷ (codes "GE", must Digits 1 SETS_DIGITS ∷ must Digits 1 CONTROL_DIGITS ∷ [])
    ∷ (
      codes "ST",
      must Alphanumeric SET_BYTES SET_BYTES
          ∷ must Alphanumeric LEAST_SET_CONTROL MOST_SET_CONTROL ∷ [],
    )
    ∷ (
      codes "SE",
      must Digits 1 SEGMENTS_DIGITS
          ∷ must Alphanumeric LEAST_SET_CONTROL MOST_SET_CONTROL ∷ [],
    )
    ∷ (codes "IEA", must Digits 1 GROUPS_DIGITS ∷ must Digits CONTROL_DIGITS CONTROL_DIGITS ∷ [])
    ∷ []

abbrev pub rows_in : List (List ℕ × List ElementRow) → List ℕ → Option (List ElementRow)
rows_in table id = option_map (λ p. p.1) (find (λ p. bytes_eq p.0 id) table)

-- Faults.

-- whether the type takes the byte
abbrev pub takes : Delims → Kind → ℕ → Bool
takes d (Coded texts) b = is_data d b
takes d Quantity b = is_digit b
takes d Digits b = is_digit b
takes d Identifier b = is_identifier_byte b
takes d Alphanumeric b = is_alphanumeric b
takes d Data b = is_data d b
takes d Parts b = is_data d b || b == d.component
takes d Date b = is_digit b
takes d Time b = is_digit b

-- what is wrong with a value of good length and bytes: 7 a code or quantity, 8 a date or time
abbrev pub value_fault : Kind → List ℕ → Option ℕ
value_fault (Coded texts) e = if is_one_of texts e then None else Some 7
value_fault Quantity e = if value e == 0 then Some 7 else None
value_fault Date e = if is_date e then None else Some 8
value_fault Time e = if is_clock (take 4 e) && not (length e == 5) then None else Some 8
value_fault kind e = None

-- the code of an element's fault by its row, AK403: 1 mandatory and missing, 5 too long, 4 too
-- short, 6 a wrong character, 7 a wrong value, 8 no date; an optional element that is empty has
-- none
abbrev pub element_fault : Delims → ElementRow → List ℕ → Option ℕ
element_fault d row e = first_of (value_fault row.kind e)
    ((length e == 0 && row.is_mandatory, Some 1)
    ∷ (length e == 0, None)
    ∷ (nat_lt row.most (length e), Some 5)
    ∷ (nat_lt (length e) row.least, Some 4)
    ∷ (not (list_all (takes d row.kind) e), Some 6)
    ∷ [])

-- a faulty element: AK401 and AK403
pub record ElementFault : Type 0 where
  pub place : ℕ
  pub code : ℕ

-- the least faulty of these elements, the first of which has this place; 3 where one stands beyond
-- the last row
abbrev pub least_element_fault : Delims → ℕ → List ElementRow → List (List ℕ) → Option ElementFault
least_element_fault d place [] [] = None
least_element_fault d place [] (e ∷ es) = Some (record { place = place; code = 3 })
least_element_fault d place (row ∷ rows) es = or_else
    (option_map (λ code. record { place = place; code = code })
    (element_fault d row (unwrap_or (slice_get es 0) [])))
    (least_element_fault d (place + 1) rows (drop 1 es))

-- the least faulty element of a segment
abbrev pub faulty_element : Delims → List ElementRow → Segment → Option ElementFault
faulty_element d rows s = least_element_fault d 1 rows (drop 1 s)

-- a GS, GE, ST, SE or IEA that has exactly its elements, and every other segment
abbrev pub is_well_formed : Delims → Segment → Bool
is_well_formed d s =
    is_none (option_and_then (λ rows. faulty_element d rows s) (rows_in control_rows (id_of s)))
