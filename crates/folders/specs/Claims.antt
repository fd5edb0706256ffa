-- Interchanges that are moved to another folder before they are read.
use Rattle.std.specs.Prelude.{◌≡◌, ◌⊎◌, ℕ, List, All, map, Option, Some, None, String, string_bytes, codes}
use Rattle.std.specs.Global.{Global}
use Rattle.std.specs.List.{filter_map}
use Rattle.std.specs.declared.io.ErrorKind.{ErrorKind}
use Rattle.std.specs.declared.io.ErrorKind.TheVariants as kinds
use Rattle.folders.specs.Entries.{IsFree, IsStanding}
use Rattle.folders.specs.Listing.{IsListed}
use Rattle.folders.specs.Paths.{file_path}
use Rattle.folders.specs.declared.claims.Claim.{Claim}
use Rattle.folders.specs.declared.claims.Claim.TheVariants.{Moved, Gone, Stays}
use Rattle.folders.specs.declared.file_system.EntryKind.{EntryKind}
use Rattle.folders.specs.declared.file_system.EntryKind.TheVariants as entries
use Rattle.folders.specs.declared.file_system.FolderEntry.{FolderEntry}
use Rattle.folders.specs.declared.passing.PassedOver.{PassedOver}
use Rattle.folders.specs.declared.staying.Staying.{Staying}
use Rattle.folders.specs.declared.staying.WhyStays.{WhyStays}
use Rattle.folders.specs.declared.staying.WhyStays.TheVariants.{NameStands, Link, NoFile, OtherFileSystem, NoRight, Failed}

abbrev pub reason_text : WhyStays → List ℕ
reason_text NameStands = codes "an earlier file of its name isn't taken yet"
reason_text Link = codes "it is a symbolic link"
reason_text NoFile = codes "no regular file"
reason_text OtherFileSystem = codes "the other folder is on another file system"
reason_text NoRight = codes "there is no right to move it"
reason_text Failed = codes "it can't be moved"

-- why a file stays after an error of this kind
abbrev pub why_of_kind : ErrorKind → WhyStays
why_of_kind kinds.CrossesDevices = OtherFileSystem
why_of_kind kinds.PermissionDenied = NoRight
why_of_kind kind = Failed

-- what an error of this kind comes to: the file is gone, or it stays
abbrev pub claim_of_kind : ErrorKind → Claim
claim_of_kind kinds.NotFound = Gone
claim_of_kind kind = Stays (why_of_kind kind)

-- A regular file was moved from a path to another, under which nothing stood.
pub record IsMoved
    (finds : List ℕ → EntryKind → Type 0) (moves : List ℕ → List ℕ → Type 0) (from to : List ℕ)
    : Type 0 where
  pub was : finds from entries.File
  pub free : IsFree finds to
  pub moved : moves from to

-- what was found of a file that stays, and of the path to which it was to be moved
abbrev pub IsReason : (List ℕ → EntryKind → Type 0) → List ℕ → List ℕ → WhyStays → Type 0
IsReason finds from to Link = finds from entries.Link
IsReason finds from to NoFile = finds from entries.Other
IsReason finds from to NameStands = IsStanding finds to
IsReason finds from to why = ⊥

-- what became of a file, if no call failed
abbrev pub IsTried : (List ℕ → EntryKind → Type 0) → (List ℕ → List ℕ → Type 0) → List ℕ → List ℕ
    → Claim → Type 0
IsTried finds moves from to Moved = IsMoved finds moves from to
IsTried finds moves from to Gone = finds from entries.NoEntry
IsTried finds moves from to (Stays why) = IsReason finds from to why

-- a call about one of the two paths failed, and this came of it
pub record IsFailed
    (fails : List ℕ → ErrorKind → Type 0) (from to : List ℕ) (claim : Claim) : Type 0 where
  pub kind : ErrorKind
  pub failed : fails from kind ⊎ fails to kind
  pub so : claim ≡ claim_of_kind kind

-- what became of the file of this name, which was to be moved from a folder to another
pub record IsClaim
    (finds : List ℕ → EntryKind → Type 0) (moves : List ℕ → List ℕ → Type 0)
    (fails : List ℕ → ErrorKind → Type 0) (dir other name : List ℕ) (claim : Claim) : Type 0 where
  pub came : IsTried finds moves (file_path dir name) (file_path other name) claim
      ⊎ IsFailed fails (file_path dir name) (file_path other name) claim

-- a file that was to be moved, and what became of it
pub record Claimed : Type 0 where
  pub name : String Global
  pub claim : Claim

-- what is told of a file that was to be moved, if it stays
abbrev pub told_staying : String Global → Claim → Option Staying
told_staying name (Stays why) = Some (record { name = name; why = why })
told_staying name claim = None

-- Each file of these names was to be moved, in this order, and came to what P says: those that stay
-- are told.
pub record AreClaimed
    (P : List ℕ → Claim → Type 0) (names : List (String Global)) (stays : List Staying)
    : Type 0 where
  pub files : List Claimed
  pub named : map (λ (file : Claimed). file.name) files ≡ names
  pub each : All (λ (file : Claimed). P (string_bytes file.name) file.claim) files
  pub told : stays ≡ filter_map (λ (file : Claimed). told_staying file.name file.claim) files

-- each interchange among the entries that a folder has was to be moved
pub record IsClaimedFrom
    (lists : List FolderEntry → Type 0) (P : List ℕ → Claim → Type 0) (stays : List Staying)
    (passed : List PassedOver) : Type 0 where
  pub names : List (String Global)
  pub all : IsListed lists names passed
  pub claimed : AreClaimed P names stays
