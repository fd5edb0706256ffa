-- The rows that a step touches.
use Rattle.std.specs.Prelude.{ℕ, ◌≡◌, ◌&&◌, nat_lt, List, if◌then◌else◌}
use Rattle.std.specs.List.{list_any}
use Rattle.definitions.specs.Events.{is_pair}
use Rattle.definitions.specs.Means.{Line}
use Rattle.definitions.specs.Rows.{LotRow}
use Rattle.page_rows.specs.Keyed.{IsSorted}
use Rattle.page_rows.specs.OfPairs.{of_pair, one}

-- the rows of the pairs that lines name, as they are
pub record IsTouched (lines : List Line) (rows touched : List LotRow) : Type 0 where
  pub sorted : IsSorted touched
  pub same : (f : LotRow → ℕ) (item lot : List ℕ)
      → of_pair f item lot touched ≡ (if list_any (is_pair item lot) lines
      then of_pair f item lot rows else 0)

-- and that of one line's pair more, if there is one
pub record IsTouchedBy (line : Line) (rows old new : List LotRow) : Type 0 where
  pub sorted : IsSorted new
  pub same : (f : LotRow → ℕ) (item lot : List ℕ)
      → of_pair f item lot new ≡ (if is_pair item lot line && nat_lt 0 (of_pair one item lot rows)
      then of_pair f item lot rows else of_pair f item lot old)
