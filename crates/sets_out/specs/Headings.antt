-- What an answer repeats of the ISA of the interchange that it answers, and what is written from
-- that.
use Rattle.std.specs.Prelude.{ℕ, Bool, List, [], ◌∷◌, codes, bytes_eq, Option, Some, None}
use Rattle.definitions.specs.Bytes.{zero_filled}
use Rattle.definitions.specs.Cut.{Segment}
use Rattle.definitions.specs.Header.{isa}

pub record Heading : Type 0 where
  -- ISA05 and ISA06, ISA09 and ISA10, ISA13
  pub qualifier : List ℕ
  pub id : List ℕ
  pub date : List ℕ
  pub time : List ℕ
  pub control : List ℕ
  -- ISA14 is 1
  pub asks : Bool

abbrev pub heading_of : List ℕ → Heading
heading_of text = record {
  qualifier = isa text 5;
  id = isa text 6;
  date = isa text 9;
  time = isa text 10;
  control = isa text 13;
  asks = bytes_eq (isa text 14) (codes "1");
}

-- TA1: accepted, or rejected with a note code
abbrev pub ta1_of : Heading → Option ℕ → Segment
ta1_of h None = codes "TA1" ∷ h.control ∷ h.date ∷ h.time ∷ codes "A" ∷ codes "000" ∷ []
ta1_of h (Some note) = codes "TA1" ∷ h.control ∷ h.date ∷ h.time ∷ codes "R" ∷ zero_filled 3 note
    ∷ []
