-- What is printed of a folder that was taken into another, and the status that it gives.
use Rattle.std.specs.Prelude.{◌≡◌, ℕ, Bool, true, false, not, ◌||◌, ◌==◌, length, List, Option, Result, Ok, Err, if◌then◌else◌, map, flat_map}
use Rattle.std.specs.Io.KnownBytes.{Appends}
use Rattle.std.specs.List.{list_any}
use Rattle.definitions.specs.Moments.{Moment}
use Rattle.folders.specs.Folders.{AreTextsTaken}
use Rattle.folders.specs.declared.into.TakenInto.{TakenInto}
use Rattle.folders.specs.declared.naming.RunFolder.{RunFolder}
use Rattle.folders.specs.declared.naming.RunFolder.TheVariants.{Unnamed}
use Rattle.store.specs.Standing.{Standing}
use Rattle.commands.specs.Takes.{IsFolderHalted, became_in, is_left, line_in, status_of_files}
use Rattle.commands.specs.declared.told.CommandError.{CommandError}
use Rattle.commands.specs.declared.told.ExitStatus.{ExitStatus}
use Rattle.commands.specs.declared.told.ExitStatus.TheVariants.{Refused}

abbrev pub is_unnamed : RunFolder → Bool
is_unnamed Unnamed = true
is_unnamed other = false

-- something isn't where it belongs: an interchange stays, one can't be answered, since its name is
-- too long, or the folder couldn't get a name
abbrev pub is_held : TakenInto → Bool
is_held into = not (length into.stays.items == 0)
    || (list_any is_left into.passed.items
    || (list_any is_left (into.taken).passed.items || is_unnamed into.folder))

-- The interchanges of these texts were taken: what became of each is printed, and the status is 1
-- where one was refused, or something isn't where it belongs.
pub record IsInboxTaken
    (old new : Standing) (t : Moment) (before later : Option (List ℕ)) (status : ExitStatus)
    : Type 0 where
  pub texts : List (List ℕ)
  pub into : TakenInto
  pub taken : AreTextsTaken old new t texts (map became_in (into.taken).files.items)
  pub printed : Appends before later (flat_map line_in (into.taken).files.items)
  pub says : status ≡ (if is_held into then Refused
      else status_of_files (map became_in (into.taken).files.items))

-- it stopped, or wasn't told
abbrev pub IsInboxHalted : Standing → Standing → Moment → Option (List ℕ) → Option (List ℕ)
    → CommandError → Type 0
IsInboxHalted = IsFolderHalted

-- how taking it ended
abbrev pub IsInboxTaking : Standing → Standing → Moment → Option (List ℕ) → Option (List ℕ)
    → Result ExitStatus CommandError → Type 0
IsInboxTaking old new t before later (Ok status) = IsInboxTaken old new t before later status
IsInboxTaking old new t before later (Err stop) = IsInboxHalted old new t before later stop
