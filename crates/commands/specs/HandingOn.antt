-- The documents that went out to a depositor, as they are left in a folder and told.
use Rattle.std.specs.Prelude.{◌≡◌, ℕ, Bool, not, List, [], ◌++◌, filter, Option, Some, None, bytes_eq, codes, decimal, ⊤}
use Rattle.std.specs.List.{FoldsTo}
use Rattle.std.specs.Io.KnownBytes.{Appends}
use Rattle.definitions.specs.Rows.{OutRow}
use Rattle.folders.specs.Documents.{IsLeft, document_path}
use Rattle.folders.specs.declared.documents.DocumentLeft.{DocumentLeft}
use Rattle.folders.specs.declared.documents.DocumentLeft.TheVariants.{Written, Differs}
use Rattle.folders.specs.declared.file_system.EntryKind.{EntryKind}
use Rattle.commands.specs.Statuses.{and_then}
use Rattle.commands.specs.declared.told.ExitStatus.{ExitStatus}
use Rattle.commands.specs.declared.told.ExitStatus.TheVariants.{Done, Refused}

-- an answer isn't handed on: who sent the interchange has it already
abbrev pub is_document : OutRow → Bool
is_document row = not (bytes_eq row.kind (codes "ANS"))

-- what is printed of a document: that it was written
abbrev pub written_line : ℕ → DocumentLeft → List ℕ
written_line n Written = decimal n ++ codes ".x12 written\n"
written_line n left = []

-- what is told of it on standard error: that another file has its name
abbrev pub differs_line : List ℕ → ℕ → DocumentLeft → List ℕ
differs_line dir n Differs =
    dir ++ (codes "/" ++ (decimal n ++ codes ".x12 has other bytes, and stays as it is\n"))
differs_line dir n left = []

-- its status: 1 where another file has its name
abbrev pub status_of_left : DocumentLeft → ExitStatus
status_of_left Differs = Refused
status_of_left left = Done

-- what is printed, and the status so far
abbrev pub Told : Type 0
Told = Option (List ℕ) × ExitStatus

module _ (finds : List ℕ → EntryKind → Type 0) (reads : List ℕ → ℕ → List ℕ → Type 0)
    (writes : List ℕ → List ℕ → Type 0) (dir : List ℕ) where
  -- A document is in the folder under its number, or was sent, or another file has its name; and
  -- that was told.
  pub record IsLeftTold (n : ℕ) (text : List ℕ) (before later : Told) : Type 0 where
    pub left : DocumentLeft
    pub is : IsLeft finds reads writes (document_path dir n) text left
    pub printed : Appends before.0 later.0 (written_line n left)
    pub status : later.1 ≡ and_then before.1 (status_of_left left)

  -- so it was with the document of a row
  abbrev pub IsRowLeft : Told → OutRow → Told → Type 0
  IsRowLeft before row later = IsLeftTold row.n row.content before later

  -- and with each document among rows, in their order
  abbrev pub AreLeft : List OutRow → Told → Told → Type 0
  AreLeft rows before later = FoldsTo IsRowLeft before (filter is_document rows) later

  -- a stranger is refused, and nothing is printed
  abbrev pub LeavesAll : Option (List OutRow) → Told → Told → Type 0
  LeavesAll None before later = later ≡ (before.0, Refused)
  LeavesAll (Some rows) before later = AreLeft rows before later

-- nothing is said of what stands in folders, and of what is written there
abbrev pub finds_any : List ℕ → EntryKind → Type 0
finds_any path kind = ⊤

abbrev pub writes_any : List ℕ → List ℕ → Type 0
writes_any path text = ⊤
