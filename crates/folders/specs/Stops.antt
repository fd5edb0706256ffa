-- Where the taking of a folder stopped.
use Rattle.std.specs.Prelude.{◌≡◌, List, length, Some, None, slice_get, String}
use Rattle.std.specs.Global.{Global}
use Rattle.definitions.specs.Moments.{Moment}
use Rattle.store.specs.Standing.{Standing}
use Rattle.folders.specs.Folders.{IsDeviceFault, IsFolderStopped}
use Rattle.folders.specs.declared.folder.FolderStop.{FolderStop}

-- The folder couldn't be read, and nothing of it was handed in.
pub record IsFolderUnread (stop : FolderStop) : Type 0 where
  pub why : IsDeviceFault stop.fault
  pub nowhere : stop.at ≡ None
  pub none_taken : stop.taken ≡ 0

-- The folder wasn't taken to its end, and so many of its texts were taken before.
pub record IsFolderStop (stop : FolderStop) (old new : Standing) (t : Moment) : Type 0 where
  pub stopped : IsFolderStopped stop.fault old new t
  pub counted : stop.taken ≡ length stopped.texts

-- it stopped at the name after those of the files that were taken
abbrev pub IsNext : FolderStop → List (String Global) → Type 0
IsNext stop names = (name : String Global) × (stop.at ≡ Some name)
    × (slice_get names stop.taken ≡ Some name)
