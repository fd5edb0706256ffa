-- The parts of an interchange as the program holds them: the definitions' parts, with the
-- delimiters of their text.
use Rattle.std.specs.Prelude.{◌≡◌, ℕ, ◌+◌, ◌≤◌, Bool, List, map, length, if◌then◌else◌, IsTrue, codes, Option, option_map}
use Rattle.std.specs.List.{position_or_len}
use Rattle.definitions.specs.Limits.{most_bytes}
use Rattle.definitions.specs.Bytes.{Delims}
use Rattle.definitions.specs.Cut.{Segment, Piece, AreOf, segments_of, has_id}
use Rattle.definitions.specs.Structure.{Set, Group, head_of}

abbrev pub piece : Delims → Segment → Piece
piece d s = record { delims = d; elements = s }

-- a set, cut by these delimiters
pub record SetOf : Type 0 where
  pub delims : Delims
  pub set : Set

abbrev pub set_under : Delims → Set → SetOf
set_under d s = record { delims = d; set = s }

-- a group, cut by these delimiters
pub record GroupOf : Type 0 where
  pub delims : Delims
  pub group : Group

abbrev pub group_under : Delims → Group → GroupOf
group_under d g = record { delims = d; group = g }

-- the groups of a text, cut by these delimiters
pub record GroupsOf : Type 0 where
  pub delims : Delims
  pub groups : List Group

-- A set begins with ST. If it is closed its one SE stands last, else it has none.
pub record IsFramed (s : Set) : Type 0 where
  pub begins : IsTrue (has_id (codes "ST") (head_of s))
  pub ends : position_or_len (has_id (codes "SE")) s.segments + (if s.is_closed then 1
      else 0) ≡ length s.segments

-- what is true of the segments that a set holds: its text has no more bytes than an interchange may
-- have
pub record AreKept (d : Delims) (ps : List Piece) (is_closed : Bool) : Type 0 where
  pub same : AreOf d ps
  pub framed : IsFramed (record { segments = segments_of ps; is_closed = is_closed })
  pub few : length ps ≤ most_bytes

-- what is true of the sets and the GE that a group holds: all are cut by its delimiters
pub record AreHeld (d : Delims) (sets : List SetOf) (tail : Option Piece) : Type 0 where
  pub sets_same : sets ≡ map (set_under d) (map (λ s. s.set) sets)
  pub tail_same : tail ≡ option_map (piece d) (option_map (λ p. p.elements) tail)

-- the piece has the id
abbrev pub marked : List ℕ → Piece → Bool
marked id p = has_id id p.elements

-- a run of pieces as one of segments
abbrev pub bare : (Piece × List Piece) → (Segment × List Segment)
bare run = (run.0.elements, segments_of run.1)
