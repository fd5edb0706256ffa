-- Which of the changes of several events last: of the rows of a pair the one that is put in last,
-- and every other change.
use Rattle.std.specs.Prelude.{ℕ, ◌≡◌, ◌≤◌, Bool, false, List, [], ◌∷◌, if◌then◌else◌, find, count_by, length, slice_index_or, None}
use Rattle.std.specs.List.{list_any}
use Rattle.definitions.specs.Rows.{LotRow}
use Rattle.stock.specs.Moved.{IsPlace}
use Rattle.stock.specs.OfPairs.{is_row}
use Rattle.stock.specs.declared.steps.Change.{Change}
use Rattle.stock.specs.declared.steps.Change.TheVariants.{Stock}
use Rattle.entries.specs.declared.decisions.Decision.{Decision}
use Rattle.entries.specs.declared.decisions.Decision.TheVariants.{Stored, Refused, Accepted}

-- whether a change puts in the row of this pair
abbrev pub is_of : List ℕ → List ℕ → Change → Bool
is_of item lot (Stock row) = is_row item lot row
is_of item lot c = false

-- whether a later change puts in the row of the same pair
abbrev pub is_replaced : Change → List Change → Bool
is_replaced (Stock row) later = list_any (is_of row.item row.lot) later
is_replaced c later = false

-- the changes that last, in their order
abbrev pub lasting : List Change → List Change
lasting [] = []
lasting (c ∷ cs) = if is_replaced c cs then lasting cs else c ∷ lasting cs

-- the row of no pair is put in twice
abbrev pub HasPairsOnce : List Change → Type 0
HasPairsOnce cs = (item lot : List ℕ) → count_by (is_of item lot) cs ≤ 1

-- each pair whose row is put in has one among these rows
abbrev pub HaveRows : List LotRow → List Change → Type 0
HaveRows rows cs = (item lot : List ℕ) → find (is_row item lot) rows ≡ None
    → list_any (is_of item lot) cs ≡ false

-- beside each row stands whether one of these changes puts in the row of its pair
pub record AreMarked (rows : List LotRow) (cs : List Change) (marks : List Bool) : Type 0 where
  pub beside : length marks ≡ length rows
  pub here : (item lot : List ℕ) (i : ℕ) → IsPlace item lot rows i
      → slice_index_or marks i false ≡ list_any (is_of item lot) cs

-- an accepted command puts in the row of no pair twice
abbrev pub PutsOnce : Decision → Type 0
PutsOnce (Stored text) = Unit {0}
PutsOnce (Refused refusal text) = Unit {0}
PutsOnce (Accepted e changes text) = HasPairsOnce changes.items
