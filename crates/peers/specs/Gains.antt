-- What is read of a connection.
use Rattle.std.specs.Prelude.{◌≡◌, ℕ, List, ◌++◌, Option}
use Rattle.std.specs.Io.KnownBytes.{Consumes}

-- the bytes grew by what the reader gave, of that which it has
pub record Gains (known left : Option (List ℕ)) (old new : List ℕ) : Type 0 where
  pub gained : List ℕ
  pub given : Consumes known left gained
  pub appended : new ≡ old ++ gained
