-- Limits: the numbers that the program's constants have.
use Rattle.std.specs.Prelude.{ℕ}
use Rattle.definitions.specs.declared.limits.TheConstants.{MOST_BYTES, MOST_GROUPS, MOST_SETS, MOST_LINES, MOST_LINES_TWO, MOST_QUANTITY, MOST_QUANTITY_TWO, MOST_RECOUNTED, MOST_ENTRIES, MOST_ITEM, MOST_LOT, MOST_NUMBER, MOST_TICKET, LEAST_PARTNER, MOST_PARTNER, MOST_PARTIES, MOST_REFERENCES, MOST_DATES, MOST_TOLD_SETS, MOST_TOLD_SEGMENTS, MOST_TOLD_ELEMENTS}
use Rattle.definitions.specs.declared.rules.Rules.{Rules}
use Rattle.definitions.specs.declared.rules.Rules.TheVariants.{One, Two}

-- bytes of an interchange
abbrev pub most_bytes : ℕ
most_bytes = MOST_BYTES

-- groups and sets of an interchange
abbrev pub most_groups : ℕ
most_groups = MOST_GROUPS

abbrev pub most_sets : ℕ
most_sets = MOST_SETS

-- lines of a set or a sheet
abbrev pub most_lines : Rules → ℕ
most_lines One = MOST_LINES
most_lines Two = MOST_LINES_TWO

-- the quantity of a line, and of a recount's
abbrev pub most_quantity : Rules → ℕ
most_quantity One = MOST_QUANTITY
most_quantity Two = MOST_QUANTITY_TWO

abbrev pub most_recounted : ℕ
most_recounted = MOST_RECOUNTED

-- numbered entries of a depositor
abbrev pub most_entries : ℕ
most_entries = MOST_ENTRIES

-- bytes of an item, a lot, an order or shipment number, a ticket
abbrev pub most_item : ℕ
most_item = MOST_ITEM

abbrev pub most_lot : ℕ
most_lot = MOST_LOT

abbrev pub most_number : ℕ
most_number = MOST_NUMBER

abbrev pub most_ticket : ℕ
most_ticket = MOST_TICKET

-- bytes of a partner's id, the most of which are the width of ISA06 and ISA08
abbrev pub least_partner : ℕ
least_partner = LEAST_PARTNER

abbrev pub most_partner : ℕ
most_partner = MOST_PARTNER

-- parties, references and dates of a set
abbrev pub most_parties : ℕ
most_parties = MOST_PARTIES

abbrev pub most_references : ℕ
most_references = MOST_REFERENCES

abbrev pub most_dates : ℕ
most_dates = MOST_DATES

-- what an acknowledgment tells: sets, segments of a set, elements of a segment
abbrev pub most_told_sets : ℕ
most_told_sets = MOST_TOLD_SETS

abbrev pub most_told_segments : ℕ
most_told_segments = MOST_TOLD_SEGMENTS

abbrev pub most_told_elements : ℕ
most_told_elements = MOST_TOLD_ELEMENTS
