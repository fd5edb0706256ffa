-- Why a text makes no sheet, for people: the record that is the reason, and what is told of it.
use Rattle.std.specs.Prelude.{ℕ, Bool, false, not, ◌&&◌, ◌||◌, ◌==◌, nat_lt, List, [], ◌∷◌, ◌++◌, length, take, ◌+◌, is_none, if◌then◌else◌, bytes_eq, codes, Option, Some, None, option_map, find}
use Rattle.std.specs.List.{list_any}
use Rattle.definitions.specs.Rules.{Today}
use Rattle.definitions.specs.declared.widths.TheConstants.{SHEET_DIGITS}
use Rattle.definitions.specs.Limits.{most_lines, most_item, most_lot}
use Rattle.definitions.specs.Bytes.{is_identifier, is_number}
use Rattle.definitions.specs.Lists.{first_of}
use Rattle.definitions.specs.declared.refusals.Refusal.{Refusal}
use Rattle.definitions.specs.declared.refusals.Refusal.TheVariants.{TooMuch, RepeatedLine, BadText, TooManyLines}
use Rattle.definitions.specs.Clerk.{RawLine, is_too_much, is_bad_line, same_raw_pair, raw_line}
use Rattle.definitions.specs.declared.sheet_kind.SheetKind.{SheetKind}
use Rattle.definitions.specs.declared.sheet_kind.SheetKind.TheVariants.{Recount as RecountSheet}
use Rattle.sheet_texts.specs.Texts.{field_of, records_of}

-- a record as a line, however many fields it has: one that isn't there is empty
abbrev pub line_in : List (List ℕ) → RawLine
line_in fields =
    record { item = field_of fields 0; lot = field_of fields 1; quantity = field_of fields 2 }

-- the records that are read of a text: all, or one more than a sheet may have
abbrev pub first_records : List ℕ → List (List (List ℕ))
first_records text = take (most_lines Today + 1) (records_of text)

-- Reasons.

-- a record that hasn't three fields or is a bad line
abbrev pub is_unread : SheetKind → List (List ℕ) → Bool
is_unread kind fields = is_none (raw_line fields) || is_bad_line kind (line_in fields)

-- a quantity over its limit; of a recount it is one of more than nine digits
abbrev pub is_over : SheetKind → RawLine → Bool
is_over RecountSheet l = nat_lt SHEET_DIGITS (length l.quantity)
is_over kind l = is_too_much Today kind l

-- whether the pair of a record stands in one of those before it
abbrev pub is_repeated : List (List (List ℕ)) → List (List ℕ) → Bool
is_repeated before fields =
    list_any (λ other. same_raw_pair (line_in other) (line_in fields)) before

-- whether a record is a reason of this refusal, given those before it
abbrev pub is_reason : SheetKind → List (List (List ℕ)) → List (List ℕ) → Refusal → Bool
is_reason kind before fields BadText = is_unread kind fields
is_reason kind before fields TooMuch = is_over kind (line_in fields)
is_reason kind before fields RepeatedLine = is_repeated before fields
is_reason kind before fields TooManyLines = length before == most_lines Today
is_reason kind before fields refusal = false

-- each record after those that stand before it
abbrev pub each_after : List (List (List ℕ)) → List (List (List ℕ))
    → List (List (List (List ℕ)) × List (List ℕ))
each_after before [] = []
each_after before (fields ∷ rows) = (before, fields) ∷ each_after (before ++ fields ∷ []) rows

-- the first of the records that is a reason, with those before it
abbrev pub first_reason : SheetKind → Refusal → List (List (List ℕ))
    → Option (List (List (List ℕ)) × List (List ℕ))
first_reason kind refusal rows = find (λ p. is_reason kind p.0 p.1 refusal) (each_after [] rows)

-- Texts.

-- a text where something is so
abbrev pub where_so : Bool → List ℕ → Option (List ℕ)
where_so is_so text = if is_so then Some text else None

-- what of a record can't be read, the first that holds
abbrev pub unread_text : List (List ℕ) → List ℕ
unread_text fields = first_of (codes "a picked quantity is 1 at least")
    ((is_none (raw_line fields), codes "a line has three fields: item, lot and quantity")
    ∷ (
      not (is_identifier 1 most_item
          (field_of fields 0)),
      codes "an item has 1 to 20 characters of A to Z, 0 to 9, - and .",
    )
    ∷ (
      not (is_identifier 1 most_lot
          (field_of fields 1)),
      codes "a lot has 1 to 12 characters of A to Z, 0 to 9, - and .",
    )
    ∷ (not (is_number (field_of fields 2)), codes "a quantity is digits alone")
    ∷ [])

abbrev pub over_text : SheetKind → List ℕ
over_text RecountSheet = codes "a quantity is at most 999,999,999"
over_text kind = codes "a quantity is at most 999,999"

abbrev pub repeated_text : List ℕ
repeated_text = codes "a line before it has this pair"

abbrev pub many_text : List ℕ
many_text = codes "a sheet has at most 999 lines"

-- the text of a reason
abbrev pub reason_text : SheetKind → List (List ℕ) → Refusal → List ℕ
reason_text kind fields BadText = unread_text fields
reason_text kind fields TooMuch = over_text kind
reason_text kind fields RepeatedLine = repeated_text
reason_text kind fields TooManyLines = many_text
reason_text kind fields refusal = []

-- what is wrong with a record, after its item and its lot where both can be read: `ITEM LOT: WHY`
abbrev pub told : List (List ℕ) → List ℕ → List ℕ
told fields why =
    if is_identifier 1 most_item (field_of fields 0) && is_identifier 1 most_lot (field_of fields 1)
    then field_of fields 0 ++ codes " " ++ field_of fields 1 ++ codes ": " ++ why
    else why

-- what is told of a text that is refused so: of the first record that is a reason
abbrev pub told_of_text : SheetKind → Refusal → List ℕ → Option (List ℕ)
told_of_text kind refusal text =
    option_map (λ p. told p.1 (reason_text kind p.1 refusal))
    (first_reason kind refusal (first_records text))

-- Pairs.

-- a record of this item and lot
abbrev pub has_pair : List ℕ → List ℕ → List (List ℕ) → Bool
has_pair item lot fields = bytes_eq (field_of fields 0) item && bytes_eq (field_of fields 1) lot
