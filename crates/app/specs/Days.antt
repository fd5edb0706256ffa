-- Days of a book. Each opens what the stop before it left, in version 1 or in version 2, answers
-- commands, and ends in a stop.
use Rattle.std.specs.Prelude.{◌≡◌, ℕ, ◌+◌, false, List, [], ◌∷◌, Result, Ok, Err, IfErr, All, Some, length, map, take, drop, slice_get}
use Rattle.sqlite.specs.Tree.{Trees}
use Rattle.definitions.specs.Rules.{Today}
use Rattle.definitions.specs.Header.{Who}
use Rattle.definitions.specs.Moments.{Moment}
use Rattle.definitions.specs.Register.{Command, Entry}
use Rattle.definitions.specs.Reply.{Accepted, Stored}
use Rattle.definitions.specs.Accepted.{reply_to}
use Rattle.store.specs.Again.{is_enrolment}
use Rattle.store.specs.Runs.{told}
use Rattle.store.specs.Standing.{Standing, IsUsable}
use Rattle.store.specs.Fault.{Fault}
use Rattle.book_statements.specs.Carrying.{LeavesCarried}
use Rattle.book_statements.specs.Faults.{IsCallFault, IsOpeningFault}
use Rattle.app.specs.Stopped.{IsAnsweredUpTo}
use Rattle.app.specs.declared.stops.answering.Answered.{Answered}

-- commands day by day: so many each, one day's after the other's, and fewer where the commands end
abbrev pub day_by_day : {X : Type 0} → List ℕ → List X → List (List X)
day_by_day [] xs = []
day_by_day (n ∷ ns) xs = take n xs ∷ day_by_day ns (drop n xs)

-- those of a day's commands that it came to: the ones that were answered and the next, and none
-- where the book wasn't opened
abbrev pub reached_on : {X : Type 0} → List X → Result Answered Fault → List X
reached_on cs (Ok day) = take (length day.outcome.replies.items + 1) cs
reached_on cs (Err fault) = []

-- those that the days came to, day by day
abbrev pub reached : {X : Type 0} → List (List X) → List (Result Answered Fault) → List (List X)
reached given [] = []
reached [] (day ∷ days) = []
reached (cs ∷ given) (day ∷ days) = reached_on cs day ∷ reached given days

-- whatever was left stands for a register of the warehouse, in one version or the other
abbrev pub AllCarried : (Trees → Type 0) → Who → Type 0
AllCarried left W = (db : Trees) → left db → (L : List Entry) × LeavesCarried W L db

module _ (left : Trees → Type 0) (W : Who) (all : AllCarried left W) where
  -- the book is usable for the register of something that was left
  pub record IsOpenedOf (new : Standing) : Type 0 where
    pub found : Trees
    pub was : left found
    pub warehouse : new.warehouse ≡ W
    pub usable : IsUsable new (all found was).0

  -- the trees stand for the register of something that was left
  pub record IsStill (db : Trees) : Type 0 where
    pub found : Trees
    pub was : left found
    pub stands : LeavesCarried W (all found was).0 db

-- on a day on which the book wasn't opened, for 40 or 41, nothing changed
abbrev pub Passes : Who → List Entry → List (Command × Moment) → Result Answered Fault → List Entry
    → Type 0
Passes W L given (Ok day) M = IsAnsweredUpTo W L given day M
Passes W L given (Err fault) M = IsCallFault fault × (M ≡ L)

-- days after one another, from the register L to the register M
abbrev pub Pass : Who → List Entry → List (List (Command × Moment)) → List (Result Answered Fault)
    → List Entry → Type 0
Pass W L given [] M = M ≡ L
Pass W L [] (day ∷ days) M = ⊥
Pass W L (cs ∷ given) (day ∷ days) M = (N : List Entry) × Passes W L cs day N
    × Pass W N given days M

-- What was accepted on one of the days is stored from then on: an interchange or an act that is
-- given again, at whatever moment, is answered by the same text.
abbrev pub KeepsAnswers : Who → List (List (Command × Moment)) → List (Result Answered Fault)
    → List Entry → Type 0
KeepsAnswers W given days M =
    (d i : ℕ) (cs : List (Command
    × Moment)) (day : Answered) (c : Command) (t s : Moment) (text : List ℕ)
    → is_enrolment c ≡ false → slice_get given d ≡ Some cs → slice_get days d ≡ Some (Ok day)
    → slice_get cs i ≡ Some (c, t)
    → slice_get (map told day.outcome.replies.items) i ≡ Some (Accepted text)
    → reply_to Today W M c s ≡ Stored text

-- trees stand for the register that one day leaves of something that was left before
pub record PassesTo
    (left : Trees → Type 0) (W : Who) (all : AllCarried left W) (given : List (Command × Moment))
    (day : Result Answered Fault) (db : Trees) : Type 0 where
  pub found : Trees
  pub was : left found
  pub register : List Entry
  pub passes : Passes W (all found was).0 given day register
  pub stands : LeavesCarried W register db

-- trees stand for the register to which the days led, and which keeps what was answered
pub record AreLed
    (W : Who) (L : List Entry) (given : List (List (Command × Moment)))
    (days : List (Result Answered Fault)) (db : Trees) : Type 0 where
  pub register : List Entry
  pub passed : Pass W L given days register
  pub kept : KeepsAnswers W given days register
  pub stands : LeavesCarried W register db

-- each day on which the book wasn't opened has the fault of an opening
abbrev pub AreOpenings : List (Result Answered Fault) → Type 0
AreOpenings days = All (λ day. IfErr day IsOpeningFault) days
