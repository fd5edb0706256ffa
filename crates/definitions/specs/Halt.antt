-- The conditions at which an interchange is halted: the first that holds decides.
use Rattle.std.specs.Prelude.{ℕ, Bool, not, ◌&&◌, ◌||◌, List, [], ◌∷◌, ◌++◌, map, length, is_some, if◌then◌else◌, nat_lt, ◌==◌, Some, None, codes, bytes_eq, sum_by, count_by, filter, Option, option_map}
use Rattle.std.specs.List.{list_any, list_all}
use Rattle.definitions.specs.declared.widths.TheConstants.{LEAST_SEGMENT, MOST_SEGMENT}
use Rattle.definitions.specs.Limits.{most_groups, most_sets, most_partner}
use Rattle.definitions.specs.Bytes.{is_between, is_space, is_alphanumeric, is_one_of, value, padded, Delims}
use Rattle.definitions.specs.Lists.{first_of}
use Rattle.definitions.specs.Cut.{cut, Segment, element, id_of, has_id, last_segment}
use Rattle.definitions.specs.Moments.{is_date, is_clock}
use Rattle.definitions.specs.Header.{Who, isa, delims_of, is_unreadable}
use Rattle.definitions.specs.Elements.{is_well_formed}
use Rattle.definitions.specs.Structure.{groups_of, is_in_place}
use Rattle.definitions.specs.Register.{Deed, Received, Entry, interchange_mark, Known, known}
use Rattle.definitions.specs.Refusals.{Refusal, Unreadable, Note, Duplicate}

pub data Halt : Type 0 where
  Refuses : Refusal → Halt
  -- these very bytes made a known entry
  Repeats : Known → Halt

-- ISA07 and ISA08 are the warehouse's
abbrev pub is_addressed_to : Who → List ℕ → Bool
is_addressed_to W text = bytes_eq (isa text 7) W.qualifier
    && bytes_eq (isa text 8) (padded most_partner W.id)

-- The conditions on ISA's fields, with their note codes.
abbrev pub header_notes : Who → List ℕ → List (Bool × ℕ)
header_notes W text =
    (not (is_addressed_to W text), 9)
    ∷ (not (bytes_eq (isa text 1) (codes "00")), 10)
    ∷ (not (list_all is_space (isa text 2)), 11)
    ∷ (not (bytes_eq (isa text 3) (codes "00")), 12)
    ∷ (not (list_all is_space (isa text 4)), 13)
    ∷ (not (is_date (codes "20" ++ isa text 9)), 14)
    ∷ (not (is_clock (isa text 10)), 15)
    ∷ (not (bytes_eq (isa text 11) (codes "U")), 2)
    ∷ (not (bytes_eq (isa text 12) (codes "00401")), 3)
    ∷ (not (is_one_of (codes "0" ∷ codes "1" ∷ []) (isa text 14)), 19)
    ∷ (not (bytes_eq (isa text 15) (codes "P")), 20)
    ∷ []

-- a segment id: 2 or 3 of A to Z and 0 to 9
abbrev pub is_segment_id : List ℕ → Bool
is_segment_id id = is_between LEAST_SEGMENT MOST_SEGMENT (length id) && list_all is_alphanumeric id

-- What makes an interchange's content invalid: a malformed GS, GE, ST or SE; a segment id of
-- another shape; a second ISA; a TA1; a segment outside its place; a group without a set; over 100
-- groups; over 1,000 sets.
abbrev pub is_content_invalid : Delims → List Segment → Bool
is_content_invalid d segments =
    let groups = groups_of segments in
    not (list_all (is_well_formed d) segments)
    || not (list_all (λ s. is_segment_id (id_of s)) segments)
    || nat_lt 1 (count_by (has_id (codes "ISA")) segments)
    || list_any (has_id (codes "TA1")) segments
    || not (is_in_place segments)
    || list_any (λ g. length g.sets == 0) groups
    || nat_lt most_groups (length groups)
    || nat_lt most_sets (sum_by (λ g. length g.sets) groups)

-- an IEA is malformed, or the first IEA isn't the last segment
abbrev pub is_trailer_wrong : Delims → List Segment → Bool
is_trailer_wrong d segments = not (
    list_all (is_well_formed d) (filter (has_id (codes "IEA")) segments)
    && count_by (has_id (codes "IEA")) segments == 1
    && has_id (codes "IEA") (last_segment segments))

-- The conditions on the segments, with their note codes: 23 premature end, 22 control structure, 1
-- control numbers, 21 number of groups, 24 content.
abbrev pub structure_notes : List ℕ → List (Bool × ℕ)
structure_notes text =
    let d = delims_of text in
    let c = cut d text in
    let iea = last_segment c.segments in
    (nat_lt 0 (length c.rest) || not (list_any (has_id (codes "IEA")) c.segments), 23)
    ∷ (is_trailer_wrong d c.segments, 22)
    ∷ (not (bytes_eq (element iea 2) (isa text 13)), 1)
    ∷ (not (value (element iea 1) == count_by (has_id (codes "GS")) c.segments), 21)
    ∷ (is_content_invalid d c.segments, 24)
    ∷ []

-- the note of the conditions on the segments, if one holds
abbrev pub structure_note : List ℕ → Option ℕ
structure_note text = first_of None (map (λ p. (p.0, Some p.1)) (structure_notes text))

-- a known control number: the same bytes, or others
abbrev pub halt_known : List ℕ → Known → Halt
halt_known text k = by_deed k.entry.deed
  where
    by_deed : Deed → Halt
    by_deed (Received bytes) = if bytes_eq bytes text then Repeats k else Refuses Duplicate
    by_deed d = Refuses Duplicate

-- M is the list of the sender's own entries, empty where ISA05 and ISA06 name no enrolled
-- depositor. Once a control number is known, whatever else is wrong isn't looked at.
abbrev pub halt : Who → List Entry → List ℕ → Option Halt
halt W M text =
    let earlier = known (interchange_mark (isa text 13)) M in
    first_of None (
    (is_unreadable text, Some (Refuses Unreadable))
    ∷ (length M == 0, Some (Refuses (Note 6)))
    ∷ (is_some earlier, option_map (halt_known text) earlier)
    ∷ map (λ p. (p.0, Some (Refuses (Note p.1)))) (header_notes W text ++ structure_notes text))
