-- The folder in which interchanges are taken, and the name that it has afterwards.
use Rattle.std.specs.Prelude.{◌≡◌, ◌⊎◌, ◌<◌, ◌≤◌, ◌+◌, ℕ, nat_lt, List, [], ◌++◌, All, if◌then◌else◌, codes, decimal, string_bytes}
use Rattle.folders.specs.Entries.{IsFree, IsStanding}
use Rattle.folders.specs.Folders.{WasRefused, became_of}
use Rattle.folders.specs.Paths.{file_path}
use Rattle.folders.specs.declared.file_system.EntryKind.{EntryKind}
use Rattle.folders.specs.declared.file_system.FolderEntry.{FolderEntry}
use Rattle.folders.specs.declared.naming.RunFolder.{RunFolder}
use Rattle.folders.specs.declared.naming.RunFolder.TheVariants.{Named, Empty, Unnamed}
use Rattle.folders.specs.declared.naming.TheConstants.{MOST_RUNS}
use Rattle.folders.specs.declared.folder.Taken.{Taken}
use Rattle.definitions.specs.declared.refusals.Refusal.TheVariants.{Unreadable}

-- the folder in which interchanges are taken
abbrev pub taking_path : List ℕ → List ℕ
taking_path done = file_path done (codes "taking")

-- the folder in it for those that are unreadable
abbrev pub aside_path : List ℕ → List ℕ
aside_path taking = file_path taking (codes "unreadable")

-- the nth name of a run: `RUN`, `RUN-2`, `RUN-3` ..
abbrev pub run_name : List ℕ → ℕ → List ℕ
run_name run n = if nat_lt 1 n then run ++ codes "-" ++ decimal n else run

-- A file was moved, and nothing stood where it is now; or something stood there, and it wasn't
-- moved.
abbrev pub IsMovedIfFree : (List ℕ → EntryKind → Type 0) → (List ℕ → List ℕ → Type 0) → List ℕ
    → List ℕ → Type 0
IsMovedIfFree finds moves from to = (IsFree finds to × moves from to) ⊎ IsStanding finds to

-- The file of this name is in the folder for unreadable ones, down to the disk; or it is where it
-- was, since a file of its name was there.
pub record IsSetAside
    (finds : List ℕ → EntryKind → Type 0) (moves : List ℕ → List ℕ → Type 0)
    (makes syncs : List ℕ → Type 0) (taking name : List ℕ) : Type 0 where
  pub made : makes (aside_path taking)
  pub moved : IsMovedIfFree finds moves (file_path taking name) (file_path (aside_path taking) name)
  pub synced : syncs (aside_path taking)

-- P holds of the names of the files that are unreadable
abbrev pub AreUnreadable : (List ℕ → Type 0) → List Taken → Type 0
AreUnreadable P files = All (λ (file : Taken). became_of file.outcome ≡ WasRefused Unreadable
    → P (string_bytes file.name)) files

-- something stood under each name of the run before the nth
abbrev pub AreTaken : (List ℕ → EntryKind → Type 0) → List ℕ → List ℕ → ℕ → Type 0
AreTaken finds done run n =
    (k : ℕ) → 1 ≤ k → k < n → IsStanding finds (file_path done (run_name run k))

-- the first name of the run under which nothing stood
pub record IsFirstFree
    (finds : List ℕ → EntryKind → Type 0) (done run name : List ℕ) : Type 0 where
  pub number : ℕ
  pub least : 1 ≤ number
  pub most : number ≤ MOST_RUNS
  pub named : name ≡ run_name run number
  pub free : IsFree finds (file_path done name)
  pub before : AreTaken finds done run number

-- The folder got this name, the first of the run that was free. What it has is on the disk, and so
-- is the name.
pub record IsNamed
    (finds : List ℕ → EntryKind → Type 0) (moves : List ℕ → List ℕ → Type 0)
    (syncs : List ℕ → Type 0) (done run name : List ℕ) : Type 0 where
  pub first : IsFirstFree finds done run name
  pub whole : syncs (taking_path done)
  pub moved : moves (taking_path done) (file_path done name)
  pub synced : syncs done

-- where the folder is in which interchanges were taken
abbrev pub IsRunFolder : (List FolderEntry → Type 0) → (List ℕ → EntryKind → Type 0)
    → (List ℕ → List ℕ → Type 0) → (List ℕ → Type 0) → List ℕ → List ℕ → RunFolder → Type 0
IsRunFolder lists finds moves syncs done run (Named name) =
    IsNamed finds moves syncs done run (string_bytes name)
IsRunFolder lists finds moves syncs done run Empty = lists []
IsRunFolder lists finds moves syncs done run Unnamed =
    AreTaken finds done run (MOST_RUNS + 1) × syncs (taking_path done)
