-- The notes as the program tells them.
use Rattle.std.specs.Prelude.{◌≡◌, ℕ, Bool, not, ◌||◌, ◌==◌, List, [], ◌∷◌, ◌++◌, map, length, if◌then◌else◌, nat_lt, count_by, sum_by, Option, Some, None, codes, bytes_eq}
use Rattle.std.specs.List.{list_any, list_all}
use Rattle.definitions.specs.Limits.{most_groups, most_sets}
use Rattle.definitions.specs.Bytes.{Delims, is_one_of, value}
use Rattle.definitions.specs.Lists.{first_of}
use Rattle.definitions.specs.Moments.{is_date, is_clock}
use Rattle.definitions.specs.Header.{isa}
use Rattle.definitions.specs.Cut.{Segment, element, id_of, has_id, last_segment}
use Rattle.definitions.specs.Elements.{is_well_formed}
use Rattle.definitions.specs.Structure.{Group, is_in_place}
use Rattle.definitions.specs.Halt.{structure_note, is_trailer_wrong, is_segment_id}
use Rattle.envelope.specs.Parts.{GroupOf}
use Rattle.envelope.specs.declared.halt.Halt.{Halt}
use Rattle.envelope.specs.declared.halt.Halt.TheVariants.{Note, OutOfMemory}

-- the code of the first condition that holds
abbrev pub first_note : List (Bool × ℕ) → Option ℕ
first_note notes = first_of None (map (λ p. (p.0, Some p.1)) notes)

-- the conditions on ISA09 to ISA15
abbrev pub late_notes : List ℕ → List (Bool × ℕ)
late_notes text =
    (not (is_date (codes "20" ++ isa text 9)), 14)
    ∷ (not (is_clock (isa text 10)), 15)
    ∷ (not (bytes_eq (isa text 11) (codes "U")), 2)
    ∷ (not (bytes_eq (isa text 12) (codes "00401")), 3)
    ∷ (not (is_one_of (codes "0" ∷ codes "1" ∷ []) (isa text 14)), 19)
    ∷ (not (bytes_eq (isa text 15) (codes "P")), 20)
    ∷ []

-- the text has that note
abbrev pub IsTold : Halt → List ℕ → Type 0
IsTold (Note code) text = structure_note text ≡ Some code
IsTold OutOfMemory text = Unit {0}

-- the conditions on the cut and the trailer, with ISA13
abbrev pub trailer_note : Delims → List Segment → Bool → List ℕ → Option ℕ
trailer_note d segments has_rest number =
    if has_rest || not (list_any (has_id (codes "IEA")) segments) then Some 23
    else (if is_trailer_wrong d segments then Some 22
    else (if not (bytes_eq (element (last_segment segments) 2) number) then Some 1
    else (if not (value (element (last_segment segments) 1) == count_by
    (has_id (codes "GS")) segments) then Some 21 else None)))

-- the content's conditions on the segments alone
abbrev pub are_segments_invalid : Delims → List Segment → Bool
are_segments_invalid d segments = not (list_all (is_well_formed d) segments)
    || not (list_all (λ s. is_segment_id (id_of s)) segments)
    || nat_lt 1 (count_by (has_id (codes "ISA")) segments)
    || list_any (has_id (codes "TA1")) segments || not (is_in_place segments)

-- the content's conditions on the groups
abbrev pub are_groups_invalid : List Group → Bool
are_groups_invalid groups = list_any (λ g. length g.sets == 0) groups
    || nat_lt most_groups (length groups) || nat_lt most_sets (sum_by (λ g. length g.sets) groups)

-- the same of the groups as they are held
abbrev pub are_held_invalid : List GroupOf → Bool
are_held_invalid groups = list_any (λ g. length g.group.sets == 0) groups
    || nat_lt most_groups (length groups)
    || nat_lt most_sets (sum_by (λ g. length g.group.sets) groups)
