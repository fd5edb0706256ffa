-- That all interchanges that a folder lists are taken, each once and in the order of their names, or
-- those before one at which it stopped.
use Rattle.std.specs.Prelude.{◌≡◌, ℕ, List, Option, Some, IsSome, map, flat_map, string_bytes}
use Rattle.std.specs.Io.KnownBytes.{Appends}
use Rattle.definitions.specs.Moments.{Moment}
use Rattle.store.specs.Fault.TheVariants.{OutOfMemory}
use Rattle.store.specs.Standing.{Standing, IsUnchanged}
use Rattle.folders.specs.Handed.{AreFilesHanded, HandedFile, IsStoppedIn}
use Rattle.folders.specs.Into.{IsStoppedAt}
use Rattle.folders.specs.Listing.{IsListed}
use Rattle.folders.specs.declared.file_system.FolderEntry.{FolderEntry}
use Rattle.folders.specs.declared.folder.FolderStop.{FolderStop}
use Rattle.folders.specs.declared.folder.Taken.{Taken}
use Rattle.folders.specs.declared.into.IntoStop.{IntoStop}
use Rattle.folders.specs.declared.passing.PassedOver.{PassedOver}
use Rattle.commands.specs.Printing.{AppendsFront}
use Rattle.commands.specs.Stops.{IsDeviceStop, fault_in}
use Rattle.commands.specs.Takes.{became_in, line_in}
use Rattle.commands.specs.declared.told.CommandError.{CommandError}

-- These are all interchanges that the folder lists, in their order; they were handed in as P says,
-- one after the other, and this became of them.
pub record AreListedHanded
    (lists : List FolderEntry → Type 0) (P : HandedFile → Type 0) (old new : Standing) (t : Moment)
    (files : List Taken) : Type 0 where
  pub passed : List PassedOver
  pub all : IsListed lists (map (λ (file : Taken). file.name) files) passed
  pub handed : AreFilesHanded P old new t (map (λ (file : Taken). string_bytes file.name) files)
      (map became_in files)

-- they were, and what became of each is printed
pub record AreListedTaken
    (lists : List FolderEntry → Type 0) (P : HandedFile → Type 0) (old new : Standing) (t : Moment)
    (before later : Option (List ℕ)) : Type 0 where
  pub files : List Taken
  pub handed : AreListedHanded lists P old new t files
  pub printed : Appends before later (flat_map line_in files)

-- they were, and couldn't be told
pub record AreListedUntold
    (lists : List FolderEntry → Type 0) (P : HandedFile → Type 0) (old new : Standing) (t : Moment)
    (before later : Option (List ℕ)) (stop : CommandError) : Type 0 where
  pub files : List Taken
  pub handed : AreListedHanded lists P old new t files
  pub printed : AppendsFront before later (flat_map line_in files)
  pub why : IsDeviceStop stop

-- for want of memory nothing was begun
abbrev pub IsUnbegun : Standing → Standing → CommandError → Type 0
IsUnbegun old new stop = IsUnchanged old new × (fault_in stop ≡ Some OutOfMemory)

-- it stopped, and at a file those before that were handed in
pub record IsStoppedAmong
    (lists : List FolderEntry → Type 0) (P : HandedFile → Type 0) (has : List ℕ → List ℕ → Type 0)
    (old new : Standing) (t : Moment) (stop : CommandError) : Type 0 where
  pub at : FolderStop
  pub told : fault_in stop ≡ Some at.fault
  pub within : IsSome at.at → IsStoppedIn lists P has at old new t

-- the same of a folder that is taken into another, at one of its steps
pub record IsStoppedMoving
    (lists : List FolderEntry → Type 0) (P : HandedFile → Type 0) (has : List ℕ → List ℕ → Type 0)
    (old new : Standing) (t : Moment) (stop : CommandError) : Type 0 where
  pub at : IntoStop
  pub told : fault_in stop ≡ Some (at.stop.fault)
  pub within : IsStoppedAt lists P has old new t at.stop at.step
