-- What is left of an amount of each row, as lines are taken from it.
use Rattle.std.specs.Prelude.{ℕ, ◌+◌, ◌≤◌, ◌≡◌, Bool, true, false, List, length, slice_index_or}
use Rattle.definitions.specs.Rows.{LotRow}
use Rattle.page_rows.specs.Moved.{IsPlace}
use Rattle.page_rows.specs.OfPairs.{one, of_pair}

-- beside each row stands what is left of its amount after what was taken of its pair, and of a pair
-- without a row nothing was taken
pub record IsLeft
    (f : LotRow → ℕ) (taken : List ℕ → List ℕ → ℕ) (rows : List LotRow) (left : List ℕ)
    : Type 0 where
  pub beside : length left ≡ length rows
  pub here : (item lot : List ℕ) (i d : ℕ) → IsPlace item lot rows i
      → slice_index_or left i d + taken item lot ≡ of_pair f item lot rows
  pub absent : (item lot : List ℕ) → of_pair one item lot rows ≡ 0 → taken item lot ≡ 0

-- so much was taken of each pair; or more was asked of some pair than was left
pub record IsLess
    (rows : List LotRow) (given : List ℕ → List ℕ → ℕ) (old new : List ℕ) (enough : Bool)
    : Type 0 where
  pub beside : length new ≡ length old
  pub went : enough ≡ true → (f : LotRow → ℕ) (taken : List ℕ → List ℕ → ℕ)
      → IsLeft f taken rows old → IsLeft f (λ a b. taken a b + given a b) rows new
  pub short : enough ≡ false → (f : LotRow → ℕ) (taken : List ℕ → List ℕ → ℕ)
      → IsLeft f taken rows old
      → ((a b : List ℕ) → taken a b + given a b ≤ of_pair f a b rows) → ⊥
