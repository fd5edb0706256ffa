-- The numbers of the profile, each beside its literal: whoever changes one of the constants meets
-- it here.
use Rattle.std.specs.Prelude.{◌≡◌, ◌==◌, ℕ, true, List, [], ◌∷◌}
use Rattle.std.specs.List.{list_all}
use Rattle.std.proofs.Common.{refl}
use Rattle.definitions.specs.declared.limits.TheConstants as limit
use Rattle.definitions.specs.declared.widths.TheConstants as width

-- how much an interchange, a set, a line and an identifier may have
abbrev limits : List (ℕ × ℕ)
limits =
    (limit.MOST_BYTES, 1048576)
    ∷ (limit.MOST_GROUPS, 100)
    ∷ (limit.MOST_SETS, 1000)
    ∷ (limit.MOST_LINES, 99)
    ∷ (limit.MOST_LINES_TWO, 999)
    ∷ (limit.MOST_QUANTITY, 99999)
    ∷ (limit.MOST_QUANTITY_TWO, 999999)
    ∷ (limit.MOST_RECOUNTED, 999999999)
    ∷ (limit.MOST_ENTRIES, 999999)
    ∷ (limit.MOST_ITEM, 20)
    ∷ (limit.MOST_LOT, 12)
    ∷ (limit.MOST_NUMBER, 22)
    ∷ (limit.MOST_TICKET, 20)
    ∷ (limit.LEAST_PARTNER, 2)
    ∷ (limit.MOST_PARTNER, 15)
    ∷ (limit.MOST_PARTIES, 5)
    ∷ (limit.MOST_REFERENCES, 5)
    ∷ (limit.MOST_DATES, 2)
    ∷ (limit.MOST_TOLD_SETS, 999)
    ∷ (limit.MOST_TOLD_SEGMENTS, 99)
    ∷ (limit.MOST_TOLD_ELEMENTS, 99)
    ∷ []

-- where ISA shows its delimiters, how wide elements are, and the columns of reports
abbrev widths : List (ℕ × ℕ)
widths =
    (width.ISA_BYTES, 106)
    ∷ (width.SEPARATOR_AT, 3)
    ∷ (width.COMPONENT_AT, 104)
    ∷ (width.TERMINATOR_AT, 105)
    ∷ (width.QUALIFIER_BYTES, 2)
    ∷ (width.BLANK_BYTES, 10)
    ∷ (width.CONTROL_DIGITS, 9)
    ∷ (width.NOTE_DIGITS, 3)
    ∷ (width.FUNCTION_BYTES, 2)
    ∷ (width.LEAST_SIDE, 2)
    ∷ (width.MOST_SIDE, 15)
    ∷ (width.DATE_DIGITS, 8)
    ∷ (width.LEAST_TIME, 4)
    ∷ (width.MOST_TIME, 8)
    ∷ (width.MOST_AGENCY, 2)
    ∷ (width.MOST_VERSION, 12)
    ∷ (width.GROUPS_DIGITS, 5)
    ∷ (width.SETS_DIGITS, 6)
    ∷ (width.SEGMENTS_DIGITS, 10)
    ∷ (width.SET_BYTES, 3)
    ∷ (width.LEAST_SET_CONTROL, 4)
    ∷ (width.MOST_SET_CONTROL, 9)
    ∷ (width.LEAST_SEGMENT, 2)
    ∷ (width.MOST_SEGMENT, 3)
    ∷ (width.POSITION_DIGITS, 6)
    ∷ (width.MOST_LOOP, 4)
    ∷ (width.MOST_ERROR, 3)
    ∷ (width.MOST_PLACE, 10)
    ∷ (width.ELEMENT_DIGITS, 4)
    ∷ (width.MOST_COPY, 99)
    ∷ (width.QUANTITY_DIGITS, 5)
    ∷ (width.QUANTITY_DIGITS_TWO, 6)
    ∷ (width.ADVICE_TOTAL_DIGITS, 7)
    ∷ (width.ADVICE_TOTAL_DIGITS_TWO, 9)
    ∷ (width.ORDER_TOTAL_DIGITS, 7)
    ∷ (width.ORDER_TOTAL_DIGITS_TWO, 9)
    ∷ (width.LINE_DIGITS, 6)
    ∷ (width.MOST_CASE, 12)
    ∷ (width.LEAST_QUALIFIER, 2)
    ∷ (width.MOST_QUALIFIER, 3)
    ∷ (width.MOST_REFERENCE, 30)
    ∷ (width.MOST_DESCRIPTION, 45)
    ∷ (width.DATE_QUALIFIER_BYTES, 2)
    ∷ (width.MOST_NAME, 60)
    ∷ (width.MOST_CODE_QUALIFIER, 2)
    ∷ (width.LEAST_CODE, 2)
    ∷ (width.MOST_CODE, 80)
    ∷ (width.MOST_STREET, 55)
    ∷ (width.LEAST_CITY, 2)
    ∷ (width.MOST_CITY, 30)
    ∷ (width.STATE_BYTES, 2)
    ∷ (width.LEAST_POSTAL, 3)
    ∷ (width.MOST_POSTAL, 15)
    ∷ (width.LEAST_COUNTRY, 2)
    ∷ (width.MOST_COUNTRY, 3)
    ∷ (width.SHEET_DIGITS, 9)
    ∷ (width.AMOUNT_COLUMN, 15)
    ∷ (width.NUMBER_COLUMN, 6)
    ∷ (width.QUANTITY_COLUMN, 6)
    ∷ []

limits_pinned : list_all (λ p. p.0 == p.1) limits ≡ true
limits_pinned = refl

widths_pinned : list_all (λ p. p.0 == p.1) widths ≡ true
widths_pinned = refl
