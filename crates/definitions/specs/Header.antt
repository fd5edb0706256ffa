-- The interchange header ISA: its fields, the delimiters, the partners, and when it can't be read.
use Rattle.std.specs.Prelude.{ℕ, ◌+◌, Bool, true, not, ◌&&◌, ◌||◌, List, [], ◌∷◌, ◌++◌, length, take, drop, if◌then◌else◌, nat_lt, nat_le, ◌==◌, slice_get, slice_index, Some, None, codes, bytes_eq, Option, unwrap_or}
use Rattle.std.specs.List.{list_all, range_with_len}
use Rattle.definitions.specs.declared.widths.TheConstants.{ISA_BYTES, ISA_PLACES, ISA_SEPARATORS, QUALIFIER_BYTES, SEPARATOR_AT, COMPONENT_AT, TERMINATOR_AT}
use Rattle.definitions.specs.Limits.{most_bytes, least_partner, most_partner}
use Rattle.definitions.specs.Bytes.{is_between, is_line_end, is_digit, is_alphanumeric, is_identifier, stripped, Delims, is_data}
use Rattle.definitions.specs.Cut.{role, is_outside}

-- Partners.

-- a trading partner, as ISA05 and ISA06 or ISA07 and ISA08 name it
pub record Who : Type 0 where
  pub qualifier : List ℕ
  pub id : List ℕ

-- a qualifier of two of A to Z and 0 to 9, and an id of 2 to 15 identifier bytes
abbrev pub is_partner : Who → Bool
is_partner w = length w.qualifier == QUALIFIER_BYTES && list_all is_alphanumeric w.qualifier
    && is_identifier least_partner most_partner w.id

abbrev pub who_eq : Who → Who → Bool
who_eq a b = bytes_eq a.qualifier b.qualifier && bytes_eq a.id b.id

-- `QQ-ID`, as in paths and commands
abbrev pub who_text : Who → List ℕ
who_text w = w.qualifier ++ codes "-" ++ w.id

-- the partner that is written so, if one is
abbrev pub who_of : List ℕ → Option Who
who_of text =
    let w : Who = record { qualifier = take 2 text; id = drop 3 text } in
    if is_partner w && bytes_eq (who_text w) text then Some w else None

-- The fields of ISA.

-- where ISA's elements begin and how wide they are, by number; 0 is its id
abbrev pub places : List (ℕ × ℕ)
places = ISA_PLACES

-- the offsets of the element separator
abbrev pub separator_offsets : List ℕ
separator_offsets = ISA_SEPARATORS

-- where elements of these widths begin, with one byte between each two
abbrev pub offsets_from : ℕ → List ℕ → List ℕ
offsets_from at [] = []
offsets_from at (w ∷ ws) = at ∷ offsets_from (at + w + 1) ws

-- ISA's elements by number; 0 is its id, and after ISA16 there is none
abbrev pub isa : List ℕ → ℕ → List ℕ
isa text n =
    let p : ℕ × ℕ = unwrap_or (slice_get places n) (0, 0) in
    take p.1 (drop p.0 text)

-- the sender, ISA05 and ISA06 without the spaces at its end
abbrev pub sender : List ℕ → Who
sender text = record { qualifier = isa text 5; id = stripped (isa text 6) }

-- Delimiters.

abbrev pub delims_of : List ℕ → Delims
delims_of text =
    record {
      separator = slice_index text SEPARATOR_AT;
      component = slice_index text COMPONENT_AT;
      terminator = slice_index text TERMINATOR_AT;
    }

-- 1C to 1F (hexadecimal), or an ASCII punctuation mark other than `-` and `.`
abbrev pub is_delimiter : ℕ → Bool
is_delimiter b = is_between 28 31 b
    || ((is_between 33 47 b || is_between 58 64 b || is_between 91 96 b || is_between 123 126 b)
    && not (b == 45 || b == 46))

-- pairwise different; the terminator may also be LF
abbrev pub are_delimiters : Delims → Bool
are_delimiters d = is_delimiter d.separator && is_delimiter d.component
    && (is_delimiter d.terminator || d.terminator == 10)
    && not (d.separator == d.component || d.separator == d.terminator
    || d.component == d.terminator)

-- the three delimiters of a text that has them and may
abbrev pub delims_in : List ℕ → Option Delims
delims_in text =
    if nat_le ISA_BYTES (length text) && are_delimiters (delims_of text) then Some (delims_of text)
    else None

-- Reading.

-- each byte is data or a delimiter, or CR or LF after a terminator; `after` says whether the text
-- stands after one
abbrev pub is_legible : Delims → Bool → List ℕ → Bool
is_legible d after [] = true
is_legible d after (b ∷ bs) =
    (is_data d b || b == d.separator || b == d.component || b == d.terminator
    || (after && is_line_end b))
    && is_legible d (is_outside (role d after b)) bs

-- An interchange is unreadable where it has more than 1,048,576 or under 106 bytes, doesn't begin
-- with ISA, has bad delimiters, lacks a separator at its offset, has a byte in ISA01 to ISA15 that
-- isn't data or an ISA13 that isn't nine digits, or has after ISA a byte that is neither data nor a
-- delimiter nor a skipped CR or LF.
abbrev pub is_unreadable : List ℕ → Bool
is_unreadable text =
    let d = delims_of text in
    nat_lt most_bytes (length text) || nat_lt (length text) ISA_BYTES
    || not (bytes_eq (take 3 text) (codes "ISA"))
    || not (are_delimiters d)
    || not (list_all (λ k. slice_index text k == d.separator) separator_offsets)
    || not (list_all (λ n. list_all (is_data d) (isa text n)) (range_with_len 1 15))
    || not (list_all is_digit (isa text 13))
    || not (is_legible d true (drop ISA_BYTES text))
