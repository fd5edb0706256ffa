-- What comes of a line that shows something, and of a line of a script.
use Rattle.std.specs.Prelude.{◌≡◌, ◌⊎◌, ℕ, Bool, false, List, Option, Some, is_some, option_map}
use Rattle.definitions.specs.Header.{who_of}
use Rattle.store.specs.Standing.{Standing}
use Rattle.intake.specs.Calls.{owner_of}
use Rattle.commands.specs.Acting.{Ending}
use Rattle.commands.specs.Files.{Reads}
use Rattle.commands.specs.Readying.{IsChange, IsNothingDone, IsTrial}
use Rattle.commands.specs.Shown.{IsLookAt, shown_of}
use Rattle.commands.specs.declared.shows.Look.{Look}
use Rattle.commands.specs.declared.shows.Look.TheVariants as asks
use Rattle.command_line.specs.declared.words.Show.{Show}
use Rattle.command_line.specs.declared.words.Show.TheVariants as show
use Rattle.command_line.specs.declared.words.Task.{Task}
use Rattle.command_line.specs.declared.words.Task.TheVariants as task
use Rattle.command_line.specs.declared.words.Words.{Words}
use Rattle.command_line.specs.declared.words.Words.TheVariants as words

-- what the words ask for; nothing where one of them can't be read
abbrev pub asked_for : Show → Option Look
asked_for (show.Stock name is_csv) = option_map (λ who. asks.Stock who is_csv) (who_of name.now)
asked_for (show.Open name) = option_map asks.Open (who_of name.now)
asked_for (show.Advice name number is_csv) =
    option_map (λ who. asks.Advice who number is_csv) (owner_of name.now number.now)
asked_for (show.Order name number is_csv) =
    option_map (λ who. asks.Order who number is_csv) (owner_of name.now number.now)
asked_for (show.Outbox name number) = option_map (λ who. asks.Outbox who number) (who_of name.now)
asked_for show.Depositors = Some asks.Depositors

abbrev pub IsAskedFor : Show → Look → Type 0
IsAskedFor s asked = asked_for s ≡ Some asked

-- whether the words can be read
abbrev pub is_readable : Show → Bool
is_readable s = is_some (asked_for s)

-- it was shown, and the book is as before
abbrev pub IsLook : Standing → Standing → Look → Option (List ℕ) → Option (List ℕ) → Ending
    → Type 0
IsLook old new asked before later ending =
    IsLookAt old new (λ L. shown_of old.warehouse L asked) before later ending

-- what the words ask for was shown
pub record IsLookFor
    (old new : Standing) (s : Show) (before later : Option (List ℕ)) (ending : Ending)
    : Type 0 where
  pub asked : Look
  pub is : IsAskedFor s asked
  pub look : IsLook old new asked before later ending

-- a word of them can't be read
pub record HasUnreadWord
    (old new : Standing) (s : Show) (before later : Option (List ℕ)) (ending : Ending)
    : Type 0 where
  pub words : is_readable s ≡ false
  pub left : IsNothingDone old new before later ending

abbrev pub IsView : Standing → Standing → Show → Option (List ℕ) → Option (List ℕ) → Ending
    → Type 0
IsView old new s before later ending = IsLookFor old new s before later ending
    ⊎ HasUnreadWord old new s before later ending

-- what a line of a script asks for was done; one that changes and shows nothing leaves the book as
-- it is
abbrev pub IsTaskDone : Reads → Standing → Standing → Task → Option (List ℕ) → Option (List ℕ) → Ending
    → Type 0
IsTaskDone reads old new (task.Act a at) before later ending = IsChange reads old new a at before later ending
IsTaskDone reads old new (task.Try a at) before later ending =
    IsTrial reads old new a at before later ending
IsTaskDone reads old new (task.Show s) before later ending = IsView old new s before later ending
IsTaskDone reads old new other before later ending = IsNothingDone old new before later ending

abbrev pub IsLineDone : Reads → Standing → Standing → Words → Option (List ℕ) → Option (List ℕ) → Ending
    → Type 0
IsLineDone reads old new (words.Over book wait t) before later ending =
    IsTaskDone reads old new t before later ending
IsLineDone reads old new (words.Script file) before later ending =
    IsNothingDone old new before later ending
IsLineDone reads old new (words.Remote server t) before later ending =
    IsNothingDone old new before later ending
