-- The segment in error of a set.
use Rattle.std.specs.Prelude.{◌≡◌, ℕ, ◌+◌, not, ◌&&◌, List, [], ◌∷◌, ◌++◌, map, length, if◌then◌else◌, slice_get, Some, None, codes, bytes_eq, position, Option, unwrap_or, option_map, option_and_then}
use Rattle.std.specs.List.{list_any}
use Rattle.definitions.specs.declared.rules.Rules.{Rules}
use Rattle.definitions.specs.Bytes.{is_one_of, Delims}
use Rattle.definitions.specs.Lists.{first_of, or_else}
use Rattle.definitions.specs.Cut.{Segment, Piece, AreOf, segments_of, id_of, last_segment}
use Rattle.definitions.specs.Elements.{ElementRow, lot_rows, segment_rows, rows_in, ElementFault, faulty_element}
use Rattle.definitions.specs.Words.{Words, IsViable, set_kinds, kind_words, has_word, words_after, words_after_all, shortest, mentions}
use Rattle.definitions.specs.declared.set_kind.SetKind.{SetKind}

-- a segment in error: AK301 its id, AK302 its position (ST has 1), AK304 its code, and AK4's
-- element
pub record SetFault : Type 0 where
  pub id : List ℕ
  pub position : ℕ
  pub code : ℕ
  pub element : Option ElementFault

-- the rows of a segment: N9 directly after a W04 or a W01 is the line's lot; ST and SE have none
-- here
abbrev pub rows_after : Rules → List ℕ → List ℕ → Option (List ElementRow)
rows_after r previous id =
    if bytes_eq id (codes "N9") && is_one_of (codes "W04" ∷ codes "W01" ∷ []) previous
    then Some (lot_rows r previous)
    else rows_in (segment_rows r) id

-- the first id that a set still wants
abbrev pub wanted_id : Words → List ℕ
wanted_id rest = unwrap_or (option_and_then (λ ids. slice_get ids 0) (shortest rest)) []

-- AK304 of a segment out of place: 3 for SE; 1 where the id is in no set that is read, 6 where it
-- is only in others; else 2
abbrev pub place_code : Rules → Words → List ℕ → ℕ
place_code r words id = first_of 2
    ((bytes_eq id (codes "SE"), 3)
    ∷ (not (list_any (λ k. mentions id (kind_words r k)) set_kinds), 1)
    ∷ (not (mentions id words), 6)
    ∷ [])

-- a segment out of place, where `rest` may stand: for SE AK301 is the first id of the shortest
-- completion
abbrev pub place_fault : Rules → Words → Words → ℕ → List ℕ → SetFault
place_fault r words rest position id = record {
  id = if bytes_eq id (codes "SE") then wanted_id rest else id;
  position = position;
  code = place_code r words id;
  element = None;
}

-- a segment in place with a faulty element: 8
abbrev pub inner_fault : Rules → Delims → List ℕ → ℕ → Segment → Option SetFault
inner_fault r d previous position s = option_map
    (λ f. record { id = id_of s; position = position; code = 8; element = Some f })
    (option_and_then (λ rows. faulty_element d rows s) (rows_after r previous (id_of s)))

-- the fault of a segment after those before it: its ids and theirs begin no word, or an element is
-- faulty
abbrev pub segment_fault : Rules → Delims → Words → List Segment → Segment → Option SetFault
segment_fault r d words before s =
    let rest = words_after_all words (map id_of before) in
    let position = length before + 1 in
    if has_word (words_after (id_of s) rest)
    then inner_fault r d (id_of (last_segment before)) position s
    else Some (place_fault r words rest position (id_of s))

-- the fault at the least position of the segments after those before them
abbrev pub least_fault : Rules → Delims → Words → List Segment → List Segment → Option SetFault
least_fault r d words before [] = None
least_fault r d words before (s ∷ ss) =
    or_else (segment_fault r d words before s) (least_fault r d words (before ++ s ∷ []) ss)

-- the segment in error of a set, if there is one
abbrev pub set_fault : Rules → Delims → Words → List Segment → Option SetFault
set_fault r d words segments = least_fault r d words [] segments

-- The same in one pass, which carries the words that may follow, the id before and the position.

abbrev pub fault_at : Rules → Delims → Words → Words → List ℕ → ℕ → Segment → Option SetFault
fault_at r d words rest previous position s =
    if has_word (words_after (id_of s) rest) then inner_fault r d previous position s
    else Some (place_fault r words rest position (id_of s))

abbrev pub fault_from : Rules → Delims → Words → Words → List ℕ → ℕ → List Segment → Option SetFault
fault_from r d words rest previous position [] = None
fault_from r d words rest previous position (s ∷ ss) =
    or_else (fault_at r d words rest previous position s)
    (fault_from r d words (words_after (id_of s) rest) (id_of s) (position + 1) ss)

-- As a relation: the fault is that of the first segment which has one, after those before it.

-- the ids of the segments and of the one after them begin no word, and so it is out of place
abbrev pub IsOutOfPlace : Words → List Segment → Segment → Type 0
IsOutOfPlace words before s = IsViable words (map id_of before ++ id_of s ∷ []) → ⊥

pub record IsSetFault
    (r : Rules) (d : Delims) (words : Words) (ss : List Segment) (f : SetFault) : Type 0 where
  pub before : List Segment
  pub here : Segment
  pub after : List Segment
  pub parts : ss ≡ before ++ here ∷ after
  -- no segment before it has a fault
  pub good : least_fault r d words [] before ≡ None
  pub fault : segment_fault r d words before here ≡ Some f

-- the fault of a set whose segments were cut from one text, whichever delimiters that has
abbrev pub IsFaultOf : Rules → SetKind → List Piece → Option SetFault → Type 0
IsFaultOf r kind ps f = (d : Delims) → AreOf d ps
    → set_fault r d (kind_words r kind) (segments_of ps) ≡ f
