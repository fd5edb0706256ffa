-- A folder that is taken into another.
use Rattle.std.specs.Prelude.{◌≡◌, ℕ, Bool, true, false, List, length, map, IfNone, IsSome, None, String, string_bytes}
use Rattle.std.specs.Global.{Global}
use Rattle.definitions.specs.Moments.{Moment}
use Rattle.store.specs.Standing.{Standing, IsUnchanged}
use Rattle.folders.specs.Folders.{Became, IsDeviceFault}
use Rattle.folders.specs.Handed.{HandedFile, AreFilesHanded, IsStoppedIn}
use Rattle.folders.specs.Listing.{IsListed}
use Rattle.folders.specs.Naming.{taking_path}
use Rattle.folders.specs.Stops.{IsFolderUnread}
use Rattle.folders.specs.declared.file_system.FolderEntry.{FolderEntry}
use Rattle.folders.specs.declared.folder.FolderStop.{FolderStop}
use Rattle.folders.specs.declared.into.IntoStep.{IntoStep}
use Rattle.folders.specs.declared.into.IntoStep.TheVariants.{Taking, Naming}
use Rattle.folders.specs.declared.into.IntoStop.{IntoStop}
use Rattle.folders.specs.declared.passing.PassedOver.{PassedOver}

-- The folder for interchanges that are taken was made, and its name is on the disk, with the names
-- of what was moved into it, and without those in the folder from which it was moved.
pub record AreDown (makes syncs : List ℕ → Type 0) (dir done : List ℕ) : Type 0 where
  pub made : makes (taking_path done)
  pub named : syncs done
  pub there : syncs (taking_path done)
  pub gone : syncs dir

-- the steps before anything is handed in
abbrev pub is_before : IntoStep → Bool
is_before Taking = false
is_before Naming = false
is_before step = true

-- It stopped before anything was handed in.
pub record IsUnbegun (stop : IntoStop) : Type 0 where
  pub before : is_before stop.step ≡ true
  pub unread : IsFolderUnread stop.stop

-- It stopped at the last step, after so many files.
pub record IsNamingStop (count : ℕ) (stop : IntoStop) : Type 0 where
  pub last : stop.step ≡ Naming
  pub why : IsDeviceFault stop.stop.fault
  pub nowhere : stop.stop.at ≡ None
  pub counted : stop.stop.taken ≡ count

-- All interchanges that the folder has were handed in as P says, so many of them.
pub record AreAllHanded
    (lists : List FolderEntry → Type 0) (P : HandedFile → Type 0) (old new : Standing) (t : Moment)
    (count : ℕ) : Type 0 where
  pub names : List (String Global)
  pub passed : List PassedOver
  pub told : List Became
  pub all : IsListed lists names passed
  pub handed : AreFilesHanded P old new t (map string_bytes names) told
  pub counted : count ≡ length names

-- It stopped where the folder is taken: within its interchanges, or before the first of them, where
-- the folder can't be read.
pub record IsTakingStopped
    (lists : List FolderEntry → Type 0) (P : HandedFile → Type 0) (has : List ℕ → List ℕ → Type 0)
    (stop : FolderStop) (old new : Standing) (t : Moment) : Type 0 where
  pub within : IsSome stop.at → IsStoppedIn lists P has stop old new t
  pub unread : IfNone stop.at (IsUnchanged old new)

-- what is handed in where it stops at a step
abbrev pub IsStoppedAt : (List FolderEntry → Type 0) → (HandedFile → Type 0)
    → (List ℕ → List ℕ → Type 0) → Standing → Standing → Moment → FolderStop → IntoStep → Type 0
IsStoppedAt lists P has old new t stop Taking = IsTakingStopped lists P has stop old new t
IsStoppedAt lists P has old new t stop Naming = AreAllHanded lists P old new t stop.taken
IsStoppedAt lists P has old new t stop step = IsUnchanged old new
