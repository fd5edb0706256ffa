-- The elements of the control segments, each at its shortest and its longest; ISA's widths; and the
-- bytes of each class.
use Rattle.std.specs.Prelude.{◌≡◌, ℕ, ◌+◌, ◌-◌, Bool, true, false, not, List, [], ◌∷◌, ◌++◌, map, length, take, drop, replicate, is_some, if◌then◌else◌, ◌==◌, codes, filter}
use Rattle.std.specs.List.{list_all, range_with_len}
use Rattle.std.proofs.Common.{refl}
use Rattle.definitions.specs.Bytes.{is_identifier_byte, is_alphanumeric, is_digit, is_line_end, is_data}
use Rattle.definitions.specs.Cut.{Segment, elements, joined}
use Rattle.definitions.specs.Elements.{is_well_formed}
use Rattle.definitions.specs.Header.{who_of, is_delimiter, is_unreadable, places, separator_offsets}
use Rattle.definitions.proofs.Sample.{isa_in, iea}
use Rattle.definitions.proofs.RowsWidths.{starred, Width, needed, digits_in, alphanumeric_in, data_in, date_in, tried}

-- Control segments.

-- HHMM, HHMMSS, HHMMSSD or HHMMSSDD
abbrev time_in : ℕ → Width
time_in place = needed place (record { in_class = codes "01"; beyond = codes " -./:A23" })
    (codes "091530129") 4 8
    ((codes "09153", 1) ∷ (codes "091530", 0) ∷ (codes "0915301", 0)
    ∷ (codes "0000", 0) ∷ (codes "2359", 0) ∷ (codes "2400", 1) ∷ (codes "0060", 1)
    ∷ (codes "240000", 1) ∷ (codes "236000", 1) ∷ (codes "235999", 0)
    ∷ (codes "0915A0", 1) ∷ (codes "0915301-", 1) ∷ [])

abbrev controls : List (List ℕ × List Width)
controls = (
  codes "GS*AR*ACME*WHSE1*20250304*0915*1*X*004010",
  alphanumeric_in 1 2 2 ∷ data_in 2 2 15 ∷ data_in 3 2 15 ∷ date_in 4 ∷ time_in 5
      ∷ digits_in 6 1 9 ∷ data_in 7 1 2 ∷ data_in 8 1 12 ∷ [],
)
    ∷ (codes "GE*1*1", digits_in 1 1 6 ∷ digits_in 2 1 9 ∷ [])
    ∷ (codes "ST*943*0001", alphanumeric_in 1 3 3 ∷ alphanumeric_in 2 4 9 ∷ [])
    ∷ (codes "SE*6*0001", digits_in 1 1 10 ∷ alphanumeric_in 2 4 9 ∷ [])
    ∷ (
      codes "IEA*1*000000001",
      digits_in 1 1 5
          ∷ needed 2 (record { in_class = codes "09"; beyond = codes " -./:A" }) (replicate 10 48) 9 9 []
          ∷ [],
    )
    ∷ []

abbrev is_formed_with : Segment → ℕ → List ℕ → Bool
is_formed_with s place e = is_well_formed starred (take place s ++ e ∷ drop (place + 1) s)

-- a control segment has one shape: a text of an element is good or it isn't
abbrev holds : Segment → Width → Bool
holds s w = list_all
    (λ p. let formed = is_formed_with s w.place p.0 in if p.1 == 0 then formed else not formed)
    (tried w)

control_widths : map (λ c. list_all (holds (elements starred c.0)) c.1) controls ≡ replicate 5 true
control_widths = refl

-- one element more, if an empty one, and one less
abbrev with_one_more : List ℕ → Bool
with_one_more text = is_well_formed starred (elements starred (text ++ codes "*"))

abbrev with_one_less : List ℕ → Bool
with_one_less text = let s = elements starred text in is_well_formed starred (take (length s - 1) s)

control_lengths : map (λ c. with_one_more c.0) controls ++ map (λ c. with_one_less c.0) controls
    ≡ replicate 10 false
control_lengths = refl

-- ISA.

isa_separators : separator_offsets
    ≡ 3 ∷ 6 ∷ 17 ∷ 20 ∷ 31 ∷ 34 ∷ 50 ∷ 53 ∷ 69 ∷ 76 ∷ 81 ∷ 83 ∷ 89 ∷ 99 ∷ 101 ∷ 103 ∷ []
isa_separators = refl

isa_widths : map (λ p. p.1) places
    ≡ 3 ∷ 2 ∷ 10 ∷ 2 ∷ 10 ∷ 2 ∷ 15 ∷ 2 ∷ 15 ∷ 6 ∷ 4 ∷ 1 ∷ 5 ∷ 9 ∷ 1 ∷ 1 ∷ 1 ∷ []
isa_widths = refl

-- an interchange without a group, whose ISA is given without its terminator
abbrev led_by : List ℕ → List ℕ
led_by isa = isa ++ codes "~" ++ iea (codes "0") (codes "000000001")

abbrev good_isa : List ℕ
good_isa = take 105 (isa_in (codes "000000001") (codes "0"))

isa_read : is_unreadable (led_by good_isa) ≡ false
isa_read = refl

-- with an element one byte longer or shorter its separators stand elsewhere
abbrev longer : Segment → ℕ → Segment
longer s n = take n s ++ map (λ e. 48 ∷ e) (take 1 (drop n s)) ++ drop (n + 1) s

abbrev shorter : Segment → ℕ → Segment
shorter s n = take n s ++ map (drop 1) (take 1 (drop n s)) ++ drop (n + 1) s

abbrev unreadable_with : (Segment → ℕ → Segment) → ℕ → Bool
unreadable_with change n = is_unreadable (led_by (joined 42 (change (elements starred good_isa) n)))

isa_longer : map (unreadable_with longer) (range_with_len 0 17) ≡ replicate 17 true
isa_longer = refl

isa_shorter : map (unreadable_with shorter) (range_with_len 0 17) ≡ replicate 17 true
isa_shorter = refl

-- Classes of bytes, over all bytes.

abbrev range : ℕ → ℕ → List ℕ
range low high = range_with_len low (high + 1 - low)

abbrev all_of : (ℕ → Bool) → List ℕ
all_of is_in = filter is_in (range 0 255)

-- the punctuation marks of ASCII but for `-` and `.`, and 1C to 1F (hexadecimal)
delimiter_bytes : all_of is_delimiter
    ≡ range 28 31 ++ range 33 44 ++ 47 ∷ range 58 64 ++ range 91 96 ++ range 123 126
delimiter_bytes = refl

identifier_bytes : all_of is_identifier_byte ≡ codes "-.0123456789ABCDEFGHIJKLMNOPQRSTUVWXYZ"
identifier_bytes = refl

alphanumeric_bytes : all_of is_alphanumeric ≡ codes "0123456789ABCDEFGHIJKLMNOPQRSTUVWXYZ"
alphanumeric_bytes = refl

digit_bytes : all_of is_digit ≡ codes "0123456789"
digit_bytes = refl

line_end_bytes : all_of is_line_end ≡ 10 ∷ 13 ∷ []
line_end_bytes = refl

-- 20 to 7E (hexadecimal) but for `*`, `>` and `~`
data_bytes_of : all_of (is_data starred) ≡ range 32 41 ++ range 43 61 ++ range 63 125
data_bytes_of = refl

-- Partners as they are written: two of A to Z and 0 to 9, and an id of 2 to 15 bytes.

abbrev is_written : List ℕ → Bool
is_written text = is_some (who_of text)

partners : map is_written
    (codes "ZZ-AB" ∷ codes "01-A.-9" ∷ codes "ZZ-ABCDEFGHIJKLMNO" ∷ codes "ZZ---" ∷ [])
    ≡ replicate 4 true
partners = refl

no_partners : map is_written
    ([] ∷ codes "ZZ" ∷ codes "ZZ-" ∷ codes "ZZ-A" ∷ codes "ZZ-ABCDEFGHIJKLMNOP" ∷ codes "Z-ACME"
    ∷ codes "ZZZ-ACME" ∷ codes "zz-ACME" ∷ codes "ZZ-acme" ∷ codes "ZZ_ACME" ∷ codes "ZZACME"
    ∷ codes "Z.-ACME" ∷ codes "ZZ-AC_ME" ∷ codes "ZZ-AC ME"
    ∷ codes " ZZ-ACME" ∷ codes "ZZ-ACME " ∷ [])
    ≡ replicate 16 false
no_partners = refl
