-- What is printed of a folder that was taken, and the status that it gives.
use Rattle.std.specs.Prelude.{◌≡◌, ◌⊎◌, ℕ, Bool, true, false, List, Option, Result, Ok, Err, if◌then◌else◌, map, flat_map, string_bytes}
use Rattle.std.specs.Io.KnownBytes.{Appends}
use Rattle.std.specs.List.{list_any}
use Rattle.definitions.specs.Moments.{Moment}
use Rattle.folders.specs.Folders.{Became, WasRefused, AreTextsTaken, IsFolderStopped, became_of}
use Rattle.folders.specs.Lines.{taken_line}
use Rattle.folders.specs.declared.folder.Taken.{Taken}
use Rattle.folders.specs.declared.passing.PassedOver.{PassedOver}
use Rattle.folders.specs.declared.passing.WhyPassed.{WhyPassed}
use Rattle.folders.specs.declared.passing.WhyPassed.TheVariants.{LongName}
use Rattle.store.specs.Standing.{Standing}
use Rattle.commands.specs.declared.told.CommandError.{CommandError}
use Rattle.commands.specs.declared.told.ExitStatus.{ExitStatus}
use Rattle.commands.specs.declared.told.ExitStatus.TheVariants.{Done, Refused}
use Rattle.commands.specs.Printing.{AppendsFront}
use Rattle.commands.specs.Stops.{IsDeviceStop, IsSilent}

abbrev is_long : WhyPassed → Bool
is_long LongName = true
is_long why = false

abbrev pub was_refused : Became → Bool
was_refused (WasRefused refusal) = true
was_refused other = false

-- one that was refused is enough
abbrev pub status_of_files : List Became → ExitStatus
status_of_files told = if list_any was_refused told then Refused else Done

abbrev pub became_in : Taken → Became
became_in file = became_of file.outcome

abbrev pub line_in : Taken → List ℕ
line_in file = taken_line (string_bytes file.name) (became_in file)

-- it can't be answered, since its name is too long
abbrev pub is_left : PassedOver → Bool
is_left entry = is_long entry.why

-- The interchanges of these texts were taken, and these passed over: what became of each is
-- printed, and the status is 1 where one was refused or can't be answered.
pub record IsFolderTaken
    (old new : Standing) (t : Moment) (before later : Option (List ℕ)) (status : ExitStatus)
    : Type 0 where
  pub texts : List (List ℕ)
  pub files : List Taken
  pub taken : AreTextsTaken old new t texts (map became_in files)
  pub printed : Appends before later (flat_map line_in files)
  pub passed : List PassedOver
  pub says : status ≡ (if list_any is_left passed then Refused
      else status_of_files (map became_in files))

-- they were taken, and couldn't be told: of what is printed of them, there is a beginning
pub record IsFolderUntold
    (old new : Standing) (t : Moment) (before later : Option (List ℕ)) (stop : CommandError)
    : Type 0 where
  pub texts : List (List ℕ)
  pub files : List Taken
  pub taken : AreTextsTaken old new t texts (map became_in files)
  pub printed : AppendsFront before later (flat_map line_in files)
  pub why : IsDeviceStop stop

-- the folder stopped at a file, or wasn't told
abbrev pub IsFolderHalted : Standing → Standing → Moment → Option (List ℕ) → Option (List ℕ)
    → CommandError → Type 0
IsFolderHalted old new t before later stop =
    IsSilent (λ fault. IsFolderStopped fault old new t) before later stop
    ⊎ IsFolderUntold old new t before later stop

-- how taking a folder ended
abbrev pub IsTaking : Standing → Standing → Moment → Option (List ℕ) → Option (List ℕ)
    → Result ExitStatus CommandError → Type 0
IsTaking old new t before later (Ok status) = IsFolderTaken old new t before later status
IsTaking old new t before later (Err stop) = IsFolderHalted old new t before later stop
