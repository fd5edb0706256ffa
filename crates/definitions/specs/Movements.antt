-- What events move, and the balances: sums of movements.
use Rattle.std.specs.Prelude.{ℕ, ◌-◌, ◌*◌, ◌≤◌, Bool, true, false, ◌&&◌, List, [], ◌++◌, map, bytes_eq, sum_by, filter, flat_map}
use Rattle.definitions.specs.Rules.{Today}
use Rattle.definitions.specs.Limits.{most_entries, most_sets, most_quantity}
use Rattle.definitions.specs.Means.{Line, advised}
use Rattle.definitions.specs.Events.{Event, Enrolment, Advised, Ordered, Acknowledged, Counted, Picked, Recounted}

pub data Column : Type 0 where
  Expected : Column
  OnHand : Column
  Reservation : Column
  Shipped : Column

-- A signed amount is told by two natural numbers, what came and what went: so a balance is a
-- difference of two sums of natural numbers, that it is never below 0 says that no more went than
-- came, and no proof needs signed arithmetic.
pub record Movement : Type 0 where
  pub item : List ℕ
  pub lot : List ℕ
  pub column : Column
  pub came : ℕ
  pub went : ℕ

abbrev pub column_eq : Column → Column → Bool
column_eq Expected Expected = true
column_eq OnHand OnHand = true
column_eq Reservation Reservation = true
column_eq Shipped Shipped = true
column_eq a b = false

abbrev pub comes : Column → Line → Movement
comes c l = record { item = l.item; lot = l.lot; column = c; came = l.quantity; went = 0 }

abbrev pub goes : Column → Line → Movement
goes c l = record { item = l.item; lot = l.lot; column = c; came = 0; went = l.quantity }

-- what each event moves
abbrev pub moves : Event → List Movement
moves Enrolment = []
moves (Advised a) = map (comes Expected) (advised a)
moves (Ordered o shares) = map (comes Reservation) shares
moves (Acknowledged n a) = []
moves (Counted n a sheet) = map (goes Expected) (advised a) ++ map (comes OnHand) sheet
moves (Picked n o shares sheet) = map (goes OnHand) sheet ++ map (comes Shipped) sheet
    ++ map (goes Reservation) shares
moves (Recounted n before sheet) = map (goes OnHand) before ++ map (comes OnHand) sheet

-- the movements of a pair in a column
abbrev pub moves_on : List Event → Column → List ℕ → List ℕ → List Movement
moves_on es c item lot =
    filter (λ m. column_eq m.column c && bytes_eq m.item item
    && bytes_eq m.lot lot) (flat_map moves es)

-- all that came to a pair in a column, and all that went
abbrev pub came_to : List Event → Column → List ℕ → List ℕ → ℕ
came_to es c item lot = sum_by (λ m. m.came) (moves_on es c item lot)

abbrev pub went_from : List Event → Column → List ℕ → List ℕ → ℕ
went_from es c item lot = sum_by (λ m. m.went) (moves_on es c item lot)

-- the balance
abbrev pub balance : List Event → Column → List ℕ → List ℕ → ℕ
balance es c item lot = came_to es c item lot - went_from es c item lot

-- on hand less reserved
abbrev pub free : List Event → List ℕ → List ℕ → ℕ
free es item lot = balance es OnHand item lot - balance es Reservation item lot

-- what a pair is expected at most: a line of it in each set of each entry that a depositor can have
abbrev pub most_expected : ℕ
most_expected = most_entries * most_sets * most_quantity Today

-- no balance is below 0, and no more is reserved than is on hand
pub record IsCovered (es : List Event) : Type 0 where
  pub nothing_below : (c : Column) (item lot : List ℕ)
      → went_from es c item lot ≤ came_to es c item lot
  pub reserved_on_hand : (item lot : List ℕ)
      → balance es Reservation item lot ≤ balance es OnHand item lot

-- no more comes to a pair's expected than that
abbrev pub IsExpectedWithin : List Event → Type 0
IsExpectedWithin es = (item lot : List ℕ) → came_to es Expected item lot ≤ most_expected
