-- Documents that are left in a folder.
use Rattle.std.specs.Prelude.{◌≢◌, ◌⊎◌, ℕ, List, ◌++◌, codes, decimal}
use Rattle.std.specs.declared.io.ErrorKind.{ErrorKind}
use Rattle.folders.specs.Entries.{IsFree, IsRead, IsStanding}
use Rattle.folders.specs.Folders.{IsErrorAt}
use Rattle.folders.specs.Paths.{file_path}
use Rattle.folders.specs.declared.documents.DocumentLeft.{DocumentLeft}
use Rattle.folders.specs.declared.documents.DocumentLeft.TheVariants.{Sent, Written, There, Differs}
use Rattle.folders.specs.declared.file_system.EntryKind.{EntryKind}

-- the path of the document of this number in a folder
abbrev pub document_path : List ℕ → ℕ → List ℕ
document_path dir number = file_path dir (decimal number ++ codes ".x12")

-- the path that it has once it is sent
abbrev pub sent_path : List ℕ → List ℕ
sent_path path = path ++ codes ".sent"

-- A file of its own has the document, and nothing stood there.
pub record IsWritten
    (finds : List ℕ → EntryKind → Type 0) (writes : List ℕ → List ℕ → Type 0)
    (path text : List ℕ) : Type 0 where
  pub free : IsFree finds path
  pub written : writes path text

-- Something stands there, which has just the document's bytes.
pub record IsThere
    (finds : List ℕ → EntryKind → Type 0) (reads : List ℕ → ℕ → List ℕ → Type 0)
    (path text : List ℕ) : Type 0 where
  pub stands : IsStanding finds path
  pub read : IsRead reads path text text

-- Something stands there, which has other bytes.
pub record IsOther
    (finds : List ℕ → EntryKind → Type 0) (reads : List ℕ → ℕ → List ℕ → Type 0)
    (path text : List ℕ) : Type 0 where
  pub stands : IsStanding finds path
  pub bytes : List ℕ
  pub read : IsRead reads path text bytes
  pub differs : bytes ≢ text

-- what became of a document that isn't sent
abbrev pub IsPut : (List ℕ → EntryKind → Type 0) → (List ℕ → ℕ → List ℕ → Type 0)
    → (List ℕ → List ℕ → Type 0) → List ℕ → List ℕ → DocumentLeft → Type 0
IsPut finds reads writes path text Sent = ⊥
IsPut finds reads writes path text Written = IsWritten finds writes path text
IsPut finds reads writes path text There = IsThere finds reads path text
IsPut finds reads writes path text Differs = IsOther finds reads path text

-- what became of a document that was to be left under a path
abbrev pub IsLeft : (List ℕ → EntryKind → Type 0) → (List ℕ → ℕ → List ℕ → Type 0)
    → (List ℕ → List ℕ → Type 0) → List ℕ → List ℕ → DocumentLeft → Type 0
IsLeft finds reads writes path text Sent = IsStanding finds (sent_path path)
IsLeft finds reads writes path text left =
    IsFree finds (sent_path path) × IsPut finds reads writes path text left

-- a call about the document's path failed, or one about the path that it has once it is sent
abbrev pub IsErrorAtEither : (List ℕ → ErrorKind → Type 0) → List ℕ → ErrorKind → Type 0
IsErrorAtEither fails path kind = IsErrorAt fails path kind ⊎ fails (sent_path path) kind
