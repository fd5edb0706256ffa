-- A set that has no fault by some rules.
use Rattle.std.specs.Prelude.{◌≡◌, ◌-◌, ◌<◌, ◌^◌, List, codes, length, IsTrue, None, Option}
use Rattle.definitions.specs.declared.rules.Rules.{Rules}
use Rattle.definitions.specs.Cut.{Piece, segments_of, last_segment, has_id}
use Rattle.definitions.specs.Faults as meant
use Rattle.definitions.specs.Bytes.{Delims}
use Rattle.definitions.specs.Faults.{IsFaultOf, set_fault}
use Rattle.definitions.specs.Words.{kind_words}
use Rattle.definitions.specs.declared.set_kind.SetKind.{SetKind}

-- SE stands last
abbrev pub EndsInSE : List Piece → Type 0
EndsInSE ps = IsTrue (has_id (codes "SE") (last_segment (segments_of ps)))

-- the segments of a set, its kind, and the rules by which it was judged
pub record Whole : Type 0 where
  pub kind : SetKind
  pub rules : Rules
  pub pieces : List Piece

-- the fault by some delimiters, which are those of the segments where all have the same
abbrev pub IsJudged : Rules → SetKind → List Piece → Option meant.SetFault → Type 0
IsJudged r kind ps f = (d : Delims) × (set_fault r d (kind_words r kind) (segments_of ps) ≡ f)
    × IsFaultOf r kind ps f

-- a set that ends with SE and has no fault by its rules
pub record IsUnfaulted (w : Whole) : Type 0 where
  pub few : length w.pieces < 2 ^ 32 - 1
  pub closed : EndsInSE w.pieces
  pub judged : IsJudged w.rules w.kind w.pieces None
