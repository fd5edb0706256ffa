-- Answers beside the files that they answer.
use Rattle.std.specs.Prelude.{◌≢◌, ◌⊎◌, ℕ, List}
use Rattle.std.specs.declared.io.ErrorKind.{ErrorKind}
use Rattle.folders.specs.Entries.{IsRead}
use Rattle.folders.specs.declared.file_system.EntryKind.{EntryKind}
use Rattle.folders.specs.declared.file_system.EntryKind.TheVariants.{File}

-- A regular file stands there, no link, which has just these bytes.
pub record IsFileThere
    (finds : List ℕ → EntryKind → Type 0) (reads : List ℕ → ℕ → List ℕ → Type 0)
    (path text : List ℕ) : Type 0 where
  pub plain : finds path File
  pub read : IsRead reads path text text

-- something else stands there, or other bytes were read there, or a call about it failed
abbrev pub IsFileMissing : (List ℕ → EntryKind → Type 0) → (List ℕ → ℕ → List ℕ → Type 0)
    → (List ℕ → ErrorKind → Type 0) → List ℕ → List ℕ → Type 0
IsFileMissing finds reads fails path text = ((kind : EntryKind) × finds path kind × (kind ≢ File))
    ⊎ ((bytes : List ℕ) × IsRead reads path text bytes × (bytes ≢ text))
    ⊎ ((kind : ErrorKind) × fails path kind)

-- A file of its own has these bytes, and it wasn't there before.
pub record IsFileWritten
    (finds : List ℕ → EntryKind → Type 0) (reads : List ℕ → ℕ → List ℕ → Type 0)
    (writes : List ℕ → List ℕ → Type 0) (fails : List ℕ → ErrorKind → Type 0) (path text : List ℕ)
    : Type 0 where
  pub missing : IsFileMissing finds reads fails path text
  pub written : writes path text

-- a file of its own has these bytes: it was written, or it was there before
abbrev pub IsFileBeside : (List ℕ → EntryKind → Type 0) → (List ℕ → ℕ → List ℕ → Type 0)
    → (List ℕ → List ℕ → Type 0) → (List ℕ → ErrorKind → Type 0) → List ℕ → List ℕ → Type 0
IsFileBeside finds reads writes fails path text =
    IsFileWritten finds reads writes fails path text ⊎ IsFileThere finds reads path text

-- a file has these bytes: it was written, or just these were read there
abbrev pub IsBeside : (List ℕ → ℕ → List ℕ → Type 0) → (List ℕ → List ℕ → Type 0) → List ℕ → List ℕ
    → Type 0
IsBeside reads writes path text = writes path text ⊎ IsRead reads path text text
