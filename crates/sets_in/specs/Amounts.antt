-- Elements that are numbers, and what is known so of the segments of a set without a fault, by
-- rules 1 or 2.
use Rattle.std.specs.Prelude.{◌≡◌, ◌≤◌, ℕ, List, true, length}
use Rattle.std.specs.List.{list_all, AllByRecursion}
use Rattle.definitions.specs.Rules.{Today}
use Rattle.definitions.specs.Bytes.{is_digit}
use Rattle.definitions.specs.Cut.{Segment, element, has_id, segment_with, places_of}
use Rattle.definitions.specs.Limits.{most_lines}
use Rattle.definitions.specs.declared.widths.TheConstants.{QUANTITY_DIGITS_TWO}

-- at most some digits, and nothing else
pub record IsAmount (most : ℕ) (text : List ℕ) : Type 0 where
  pub short : length text ≤ most
  pub digits : list_all is_digit text ≡ true

-- where the segment has the id, its element at the place is a number
abbrev pub HasAmount : List ℕ → ℕ → ℕ → Segment → Type 0
HasAmount id place most s = has_id id s ≡ true → IsAmount most (element s place)

abbrev pub HaveAmounts : List ℕ → ℕ → ℕ → List Segment → Type 0
HaveAmounts id place most ss = AllByRecursion (HasAmount id place most) ss

-- lines begin at the segments with an id, whose first element is a quantity; another has their sum,
-- of at most some digits
pub record IsCountable (line total : List ℕ) (most : ℕ) (ss : List Segment) : Type 0 where
  pub few : length (places_of line ss) ≤ most_lines Today
  pub quantities : HaveAmounts line 1 QUANTITY_DIGITS_TWO ss
  pub sum : IsAmount most (element (segment_with total ss) 1)
