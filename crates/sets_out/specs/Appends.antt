-- Segments that were appended.
use Rattle.std.specs.Prelude.{◌≡◌, ◌≤◌, ℕ, ◌+◌, List, ◌++◌, length}
use Rattle.definitions.specs.Bytes.{Delims}
use Rattle.definitions.specs.Cut.{Segment}
use Rattle.definitions.specs.Texts.{text_of}

-- n segments stand after what stood before, each of one byte at least
pub record Writes (d : Delims) (old new : List ℕ) (ss : List Segment) (n : ℕ) : Type 0 where
  pub text : new ≡ old ++ text_of d ss
  pub count : n ≡ length ss
  pub room : length old + n ≤ length new
