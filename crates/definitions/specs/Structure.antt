-- Groups and sets of an interchange, and the faults of their envelopes.
use Rattle.std.specs.Prelude.{◌≡◌, ℕ, ◌+◌, Bool, not, ◌&&◌, List, [], ◌∷◌, ◌++◌, map, length, take, drop, is_some, is_none, IsTrue, ◌==◌, slice_get, Some, None, codes, bytes_eq, find, flat_map, Option, unwrap_or, option_to_list}
use Rattle.std.specs.List.{list_any, list_all, AllByRecursion, position_or_len, before_first, after_first}
use Rattle.definitions.specs.Bytes.{is_one_of, value}
use Rattle.definitions.specs.Lists.{first_of, parted}
use Rattle.definitions.specs.Cut.{Segment, element, id_of, has_id, last_segment}
use Rattle.definitions.specs.Words.{set_kinds, kind_function, kind_number}
use Rattle.definitions.specs.declared.set_kind.SetKind.{SetKind}

-- a set: ST, what stands after it, and SE if it is closed
pub record Set : Type 0 where
  pub segments : List Segment
  pub is_closed : Bool

-- a functional group: GS, its sets, and GE if there is one
pub record Group : Type 0 where
  pub head : Segment
  pub sets : List Set
  pub tail : Option Segment

-- a set begins at ST and ends with SE, or without it before the next ST, GE, GS or IEA
abbrev pub set_of : (Segment × List Segment) → Set
set_of run = record {
  segments = run.0 ∷ take (position_or_len (has_id (codes "SE")) run.1 + 1) run.1;
  is_closed = list_any (has_id (codes "SE")) run.1;
}

-- its first segment, and its control number, ST02
abbrev pub head_of : Set → Segment
head_of s = unwrap_or (slice_get s.segments 0) []

abbrev pub control_of : Set → List ℕ
control_of s = element (head_of s) 2

-- a group begins at GS and ends with GE, or without it before the next GS or IEA
abbrev pub group_of : (Segment × List Segment) → Group
group_of run = record {
  head = run.0;
  sets = map set_of ((parted (has_id (codes "ST"))
      (before_first (has_id (codes "GE")) run.1)).runs);
  tail = find (has_id (codes "GE")) run.1;
}

-- the groups between ISA and IEA
abbrev pub groups_of : List Segment → List Group
groups_of segments =
    map group_of ((parted (has_id (codes "GS"))
    (before_first (has_id (codes "IEA")) (drop 1 segments))).runs)

-- The parts put together again.

abbrev pub group_segments : Group → List Segment
group_segments g = g.head ∷ flat_map (λ s. s.segments) g.sets ++ option_to_list g.tail

-- Nothing but sets in a group, nothing but groups outside: what the parts leave out.

abbrev pub is_nothing : List Segment → Bool
is_nothing ss = length ss == 0

-- nothing stands after SE in a set's run
abbrev pub is_set_clean : (Segment × List Segment) → Bool
is_set_clean run = is_nothing (after_first (has_id (codes "SE")) run.1)

-- nothing stands between GS and the first ST, nor after GE
abbrev pub is_group_clean : (Segment × List Segment) → Bool
is_group_clean run =
    let p = parted (has_id (codes "ST")) (before_first (has_id (codes "GE")) run.1) in
    is_nothing p.front && is_nothing (after_first (has_id (codes "GE")) run.1)
    && list_all is_set_clean p.runs

-- nothing stands between ISA and the first GS, nor after IEA
abbrev pub is_in_place : List Segment → Bool
is_in_place segments =
    let p = parted (has_id (codes "GS")) (before_first (has_id (codes "IEA")) (drop 1 segments)) in
    is_nothing p.front && is_nothing (after_first (has_id (codes "IEA")) (drop 1 segments))
    && list_all is_group_clean p.runs

-- As a relation.

-- a segment that stands inside a set
abbrev pub control_ids : List (List ℕ)
control_ids = codes "ISA" ∷ codes "GS" ∷ codes "ST" ∷ codes "SE" ∷ codes "GE" ∷ codes "IEA"
    ∷ codes "TA1" ∷ []

abbrev pub IsInner : Segment → Type 0
IsInner s = IsTrue (not (is_one_of control_ids (id_of s)))

-- a set is ST, inner segments, and SE if it is closed
abbrev pub IsSet : Set → Type 0
IsSet s = (head : Segment) × (body : List Segment) × (tail : Option Segment)
    × (s.segments ≡ head ∷ body ++ option_to_list tail)
    × (s.is_closed ≡ is_some tail)
    × IsTrue (has_id (codes "ST") head) × AllByRecursion IsInner body
    × IsTrue (list_all (has_id (codes "SE")) (option_to_list tail))

-- a group is GS, sets, perhaps GE
abbrev pub IsGroup : Group → Type 0
IsGroup g = IsTrue (has_id (codes "GS") g.head) × AllByRecursion IsSet g.sets
    × IsTrue (list_all (has_id (codes "GE")) (option_to_list g.tail))

-- the segments are ISA, groups, IEA put together
abbrev pub IsParts : List Segment → List Group → Type 0
IsParts segments groups = (isa iea : Segment)
    × (segments ≡ isa ∷ flat_map group_segments groups ++ iea ∷ [])
    × IsTrue (has_id (codes "ISA") isa) × IsTrue (has_id (codes "IEA") iea)
    × AllByRecursion IsGroup groups

-- Faults.

-- the set that belongs to a group, by GS01: none where GS01 isn't OW, AR or FA
abbrev pub kind_of : Group → Option SetKind
kind_of g = find (λ k. bytes_eq (kind_function k) (element g.head 1)) set_kinds

-- Faults of a group, AK905: 1 GS01 isn't OW, AR or FA; 2 GS07 isn't X or GS08 isn't 004010; 3 no
-- GE; 4 GE02 isn't GS06, byte for byte; 5 GE01 isn't the number of sets.
abbrev pub group_fault : Group → Option ℕ
group_fault g =
    let tail = unwrap_or g.tail [] in first_of None
    ((is_none (kind_of g), Some 1)
    ∷ (
      not (bytes_eq (element g.head 7) (codes "X")
          && bytes_eq (element g.head 8) (codes "004010")),
      Some 2,
    )
    ∷ (is_none g.tail, Some 3)
    ∷ (not (bytes_eq (element tail 2) (element g.head 6)), Some 4)
    ∷ (not (value (element tail 1) == length g.sets), Some 5)
    ∷ [])

-- Faults of a set's envelope, AK502: 2 no SE; 1 ST01 isn't the set that belongs to GS01; 7 ST02
-- stood before in this group; 3 SE02 isn't ST02; 4 SE01 isn't the number of segments with ST and
-- SE. `earlier` are the control numbers (ST02) of the group's sets before it.
abbrev pub envelope_fault : Option SetKind → List (List ℕ) → Set → Option ℕ
envelope_fault kind earlier s =
    let tail = last_segment s.segments in first_of None
    ((not s.is_closed, Some 2)
    ∷ (
      not (list_any (λ k. bytes_eq (kind_number k) (element (head_of s) 1))
          (option_to_list kind)),
      Some 1,
    )
    ∷ (is_one_of earlier (control_of s), Some 7)
    ∷ (not (bytes_eq (element tail 2) (control_of s)), Some 3)
    ∷ (not (value (element tail 1) == length s.segments), Some 4)
    ∷ [])

-- the sets with the faults of their envelopes
abbrev pub examined_on : Option SetKind → List (List ℕ) → List Set → List (Set × Option ℕ)
examined_on kind earlier [] = []
examined_on kind earlier (s ∷ ss) = (s, envelope_fault kind earlier s)
    ∷ examined_on kind (control_of s ∷ earlier) ss

abbrev pub examined : Group → List (Set × Option ℕ)
examined g = examined_on (kind_of g) [] g.sets

abbrev pub envelope_faults : Group → List (Option ℕ)
envelope_faults g = map (λ p. p.1) (examined g)
