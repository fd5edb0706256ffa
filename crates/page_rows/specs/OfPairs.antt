-- What rows tell of a pair: a sum over the rows that name it, of which there is at most one.
use Rattle.std.specs.Prelude.{◌≡◌, ℕ, ◌+◌, ◌-◌, ◌≤◌, Bool, true, false, not, ◌&&◌, List, filter, find, sum_by, bytes_eq, if◌then◌else◌, ◌==◌, Option, Some, None, option_and_then}
use Rattle.std.specs.List.{list_any}
use Rattle.definitions.specs.Lists.{or_else, first_found}
use Rattle.definitions.specs.Rows.{LotRow}
use Rattle.definitions.specs.Means.{Line, AdviceLine}
use Rattle.definitions.specs.Events.{is_pair, quantity_of, date_given}
use Rattle.definitions.specs.Movements.{Column, Expected, OnHand, Reservation, Shipped, column_eq}

abbrev pub is_row : List ℕ → List ℕ → LotRow → Bool
is_row item lot r = bytes_eq r.item item && bytes_eq r.lot lot

abbrev pub of_pair : (LotRow → ℕ) → List ℕ → List ℕ → List LotRow → ℕ
of_pair f item lot rows = sum_by (λ r. if is_row item lot r then f r else 0) rows

-- the date on which a pair expires, if its row has one
abbrev pub date_of_pair : List ℕ → List ℕ → List LotRow → Option (List ℕ)
date_of_pair item lot rows = option_and_then (λ r. r.expiry) (find (is_row item lot) rows)

abbrev pub one : LotRow → ℕ
one r = 1

abbrev pub since : LotRow → ℕ
since r = r.since

abbrev pub amount : Column → LotRow → ℕ
amount Expected r = r.expected
amount OnHand r = r.on_hand
amount Reservation r = r.reserved
amount Shipped r = r.shipped

-- what lines of one column give a pair in a column
abbrev pub given : Column → List Line → Column → List ℕ → List ℕ → ℕ
given column lines c item lot = if column_eq column c then quantity_of lines item lot else 0

-- a row with more, and with less, in a column
abbrev pub raised : Column → ℕ → LotRow → LotRow
raised Expected n r = record r { expected = r.expected + n }
raised OnHand n r = record r { on_hand = r.on_hand + n }
raised Reservation n r = record r { reserved = r.reserved + n }
raised Shipped n r = record r { shipped = r.shipped + n }

abbrev pub lowered : Column → ℕ → LotRow → LotRow
lowered Expected n r = record r { expected = r.expected - n }
lowered OnHand n r = record r { on_hand = r.on_hand - n }
lowered Reservation n r = record r { reserved = r.reserved - n }
lowered Shipped n r = record r { shipped = r.shipped - n }

-- a row with so much on hand
abbrev pub with_on_hand : ℕ → LotRow → LotRow
with_on_hand n r = record r { on_hand = n }

-- 1 for a pair that one of the lines names, else 0
abbrev pub named_by : List Line → List ℕ → List ℕ → ℕ
named_by lines item lot = if list_any (is_pair item lot) lines then 1 else 0

-- the rows are of the pairs that the lines name, and of no others
abbrev pub AreRowsOf : List Line → List LotRow → Type 0
AreRowsOf lines rows = (item lot : List ℕ) → of_pair one item lot rows ≡ named_by lines item lot

-- a row for each pair, and no two
abbrev pub IsDistinct : List LotRow → Type 0
IsDistinct rows = (item lot : List ℕ) → of_pair one item lot rows ≤ 1

-- the row of a line's pair with nothing in it
abbrev pub blank : Line → LotRow
blank l = record {
  item = l.item;
  lot = l.lot;
  expiry = None;
  since = 0;
  expected = 0;
  on_hand = 0;
  reserved = 0;
  shipped = 0;
}

-- a number, and none for 0
abbrev pub positive : ℕ → Option ℕ
positive n = if n == 0 then None else Some n

-- the number of a pair after a count: that of the first that named it
abbrev pub first_number : ℕ → Bool → ℕ → ℕ
first_number n named old = if old == 0 then (if named then n else 0) else old

-- a row that a count names
abbrev pub marked : ℕ → LotRow → LotRow
marked n r = record r { since = first_number n true r.since }

-- the first date that lines give a pair
abbrev pub date_of : List AdviceLine → List ℕ → List ℕ → Option (List ℕ)
date_of lines item lot = first_found (date_given item lot) lines

-- a row with a date, if it had none
abbrev pub dated : Option (List ℕ) → LotRow → LotRow
dated date r = record r { expiry = or_else r.expiry date }

-- one date, or none in both places
abbrev pub same_date : Option (List ℕ) → Option (List ℕ) → Bool
same_date (Some x) (Some y) = bytes_eq x y
same_date None None = true
same_date x y = false

-- the same pair with the same date, number and amounts
abbrev pub same_row : LotRow → LotRow → Bool
same_row r x = bytes_eq r.item x.item && bytes_eq r.lot x.lot && same_date r.expiry x.expiry
    && r.since == x.since
    && r.expected == x.expected && r.on_hand == x.on_hand && r.reserved == x.reserved
    && r.shipped == x.shipped

-- the rows that the old ones haven't
abbrev pub changed_rows : List LotRow → List LotRow → List LotRow
changed_rows old new = filter (λ r. not (list_any (same_row r) old)) new
